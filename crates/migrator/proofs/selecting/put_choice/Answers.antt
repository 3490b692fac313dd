use Rattle.migrator.proofs.ErasesLeft.{changed-left}
use Rattle.migrator.proofs.Spent.{put-most}
use Rattle.std.proofs.Common.{refl}
use Rattle.std.proofs.Common.{◌≤◌, ℕ, List, length, sym, subst}
use Rattle.flash_sim.specs.declared.flash.TheConstants.{PROGRAM_LIMIT}
use Rattle.fcb_ring.specs.Changing.{AppendEnds, cost_on}
use Rattle.migrator.specs.Choosing.{choice_of}
use Rattle.migrator.proofs.Putting.{put-short, put-ends}
use Rattle.migrator.proofs.selecting.put_choice.Goals as goal

pub append-requires-clause-short : goal.append-requires-clause-short
append-requires-clause-short g c =
    subst (λ (body : List ℕ). cost_on (g.F.Flash.device c.args.flash.now) c.args.ring.now.area (length body) ≤ PROGRAM_LIMIT) (sym c.choice_of-body.ensures)
    (put-short (g.F.Flash.device c.args.flash.now) c.args.ring.now (g.met.F.Flash.is_lawful c.args.flash.now) c.requires.mounted)

pub returns-clause-ends : goal.returns-clause-ends
returns-clause-ends g c areas store =
    put-ends areas (g.F.Flash.device c.args.flash.now) (g.F.Flash.device c.append.new.flash) c.args.ring.now c.append.new.self c.args.index c.args.ring.now.reserve c.append.result
    (g.met.F.Flash.is_lawful c.args.flash.now) (g.met.F.Flash.is_lawful c.append.new.flash) c.append.ensures.touches.banks c.requires.mounted c.requires.mounted.reserve c.append.ensures.reserve store
    (subst (λ (body : List ℕ). AppendEnds (g.F.Flash.device c.args.flash.now) (g.F.Flash.device c.append.new.flash) c.args.ring.now c.append.new.self body c.args.ring.now.reserve c.append.result) c.choice_of-body.ensures c.append.ensures.ends)

pub returns-clause-at_most : goal.returns-clause-at_most
returns-clause-at_most g c =
    put-most (g.F.Flash.device c.args.flash.now) (g.F.Flash.device c.append.new.flash) c.args.ring.now c.append.new.self (choice_of c.args.index) c.args.ring.now.reserve c.append.result refl
    (subst (λ (body : List ℕ). AppendEnds (g.F.Flash.device c.args.flash.now) (g.F.Flash.device c.append.new.flash) c.args.ring.now c.append.new.self body c.args.ring.now.reserve c.append.result) c.choice_of-body.ensures c.append.ensures.ends)

pub returns-clause-left : goal.returns-clause-left
returns-clause-left g c =
    changed-left (g.F.Flash.device c.args.flash.now) (g.F.Flash.device c.append.new.flash) c.args.ring.now c.requires.mounted.stands c.requires.mounted.ready c.append.ensures.touches.banks _ c.append.ensures.others
