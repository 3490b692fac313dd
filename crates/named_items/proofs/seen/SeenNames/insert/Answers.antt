use Rattle.std.proofs.Common.{rules, ◌≡◌, ℕ, length, subst}
use Rattle.named_items.specs.Seen.{hash, is_marked}
use Rattle.named_items.proofs.SeenSteps.{marked, mark-same, mark-keeps}
use Rattle.named_items.proofs.seen.SeenNames.insert.Goals as goal

pub returns-clause-keeps : goal.returns-clause-keeps
returns-clause-keeps c = let size : length c.args.self.now.words ≡ 512 = search rules in λ other was. mark-keeps c.args.self.now.words size c.hash-hash.result (hash other) was

pub returns-clause-adds : goal.returns-clause-adds
returns-clause-adds c =
    let size : length c.args.self.now.words ≡ 512 = search rules in
    subst (λ (k : ℕ). is_marked (marked c.args.self.now.words size c.hash-hash.result) k ≡ 1) c.hash-hash.ensures (mark-same c.args.self.now.words size c.hash-hash.result)
