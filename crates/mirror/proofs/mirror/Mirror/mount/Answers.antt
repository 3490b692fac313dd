use Rattle.std.proofs.Common.{◌≡◌, ◌≢◌, ℕ, Bool, true, false, List, [], ◌∷◌, length, Err, Some, sym, ap, subst, ◌∙◌, inr}
use Rattle.std.specs.FinMap as maps
use Rattle.std.specs.List.{slice_get}
use Rattle.flash_sim.specs.Device.{Device}
use Rattle.flash_sim.specs.declared.flash.Bank.{Bank}
use Rattle.flash_map.specs.Area.{IsLawfulArea, sectors_of}
use Rattle.flash_map.specs.On.{on, HoldsOn}
use Rattle.flash_map.specs.Touches.{Touches}
use Rattle.flash_map.specs.declared.area.Area.{Area}
use Rattle.flash_map.proofs.Apart.{same_apart}
use Rattle.migrator.specs.Areas.{is_store_at}
use Rattle.migrator.proofs.Migration.{selector-apart}
use Rattle.mirror.specs.declared.mirror.Mirror.{Mirror}
use Rattle.mirror.specs.Mounting.{BothEnds, HoldsMap, SparesAreas, both_units, mount_lost, other_place, worked_on}
use Rattle.mirror.specs.Trusted.{trusted_on}
use Rattle.migrator.proofs.Moving.{still}
use Rattle.mirror.proofs.KeepSteps.{keeps-both, keeps-fault, rests-behind, trusted-both, trusted-fault}
use Rattle.mirror.proofs.MapSteps.{map-still, other-is, store-there}
use Rattle.mirror.proofs.MountSteps.{both-touch, first-touches, lost-same, mounts-fault, mounts-first, mounts-spend, mounts-then, records-behind, selector-active-still, selector-damage-still, spares-all, spares-selector}
use Rattle.mirror.specs.Owing.{naming_units}
use Rattle.mirror.proofs.OwingSteps.{due-still, naming-spent, owed-behind, owed-selector}
use Rattle.mirror.proofs.TrustSteps.{store-beside, trusted-again, trusted-stores}
use Rattle.mirror.proofs.mirror.Mirror.mount.Goals as goal

pub returns-in-Err-clause-touches : goal.returns-in-Err-clause-touches
returns-in-Err-clause-touches g c selector trusted other is there beside =
    let d : Device = g.F.Flash.device c.args.flash.now in
    let m : Device = g.F.Flash.device c.trust.new.flash in
    subst (λ (lost : Bool). Touches (worked_on selector trusted other) d m lost) (lost-same ℕ (Mirror g.row.K.Denot) c.in-Err.fault)
    (first-touches selector trusted other d m (mount_lost {T = ℕ} (Err c.in-Err.fault)) (c.in-Err.ensures.touches selector is))

pub returns-in-Err-clause-ends : goal.returns-in-Err-clause-ends
returns-in-Err-clause-ends g c selector is =
    let d : Device = g.F.Flash.device c.args.flash.now in
    let m : Device = g.F.Flash.device c.trust.new.flash in
    mounts-fault g.K.Backend.mounted_on g.K.Backend.stands g.K.Backend.damage g.K.Backend.contents g.K.Backend.room g.K.Priced.prices c.args.map.now selector is d m c.in-Err.fault c.in-Err.ensures.ends (c.in-Err.ensures.touches selector is)

pub mount_both-requires-clause-map : goal.mount_both-requires-clause-map
mount_both-requires-clause-map g c =
    map-still g.K.Backend.serves c.args.map.now (g.F.Flash.device c.args.flash.now) c.requires.map (g.F.Flash.device c.trust.new.flash) (c.in-Ok.ensures.touches c.requires.map.selector c.requires.map.selected).banks

pub mount_both-requires-clause-store : goal.mount_both-requires-clause-store
mount_both-requires-clause-store g c =
    ap (is_store_at c.args.map.now) c.in-Ok.ensures.ends.0 ∙ trusted-stores g.K.Backend.serves c.args.map.now (g.F.Flash.device c.args.flash.now) c.requires.map

pub returns-clause-touches : goal.returns-clause-touches
returns-clause-touches g c selector trusted other is there beside =
    let d : Device = g.F.Flash.device c.args.flash.now in
    let m : Device = g.F.Flash.device c.trust.new.flash in
    let e : Device = g.F.Flash.device c.mount_both.new.flash in
    let at : c.in-Ok.place ≡ trusted_on c.args.map.now d = c.in-Ok.ensures.ends.0 in
    both-touch selector trusted other d m e (mount_lost c.mount_both.result) (c.in-Ok.ensures.touches selector is)
    (c.mount_both.ensures.touches trusted other (ap (slice_get c.args.map.now) at ∙ there) (ap (λ (n : ℕ). slice_get c.args.map.now (other_place c.args.map.now n)) at ∙ beside))

pub returns-clause-ends : goal.returns-clause-ends
returns-clause-ends g c selector is =
    let d : Device = g.F.Flash.device c.args.flash.now in
    let m : Device = g.F.Flash.device c.trust.new.flash in
    let e : Device = g.F.Flash.device c.mount_both.new.flash in
    let areas = c.args.map.now in
    let at : c.in-Ok.place ≡ trusted_on c.args.map.now d = c.in-Ok.ensures.ends.0 in
    let t = store-there areas (trusted_on areas d) (trusted-stores g.K.Backend.serves areas d c.requires.map) in
    let others = other-is g.K.Backend.serves areas d c.requires.map (trusted_on areas d) in
    let o = store-there areas (other_place areas (trusted_on areas d)) others.stores in
    let first = c.in-Ok.ensures.touches selector is in
    let second = c.mount_both.ensures.touches t.0 o.0 (ap (slice_get areas) at ∙ t.1) (ap (λ (n : ℕ). slice_get areas (other_place areas n)) at ∙ o.1) in
    let flash = g.met.F.Flash.is_lawful c.args.flash.now in
    let mid = g.met.F.Flash.is_lawful c.trust.new.flash in
    let t-same = store-beside g.K.Backend.serves areas d m selector false c.requires.map is flash mid first (trusted_on areas d) t.0 t.1 (trusted-stores g.K.Backend.serves areas d c.requires.map) in
    let o-same = store-beside g.K.Backend.serves areas d m selector false c.requires.map is flash mid first (other_place areas (trusted_on areas d)) o.0 o.1 others.stores in
    let s-same = c.mount_both.ensures.selector selector is in
    mounts-then g.K.Backend.mounted_on g.K.Backend.stands g.K.Backend.damage g.K.Backend.contents g.K.Backend.room g.K.Priced.prices areas selector is d m e t.0 o.0 t.1 o.1 c.in-Ok.ensures.ends.1 first.banks second.banks t-same o-same s-same first
    (trusted-again g.K.Backend.serves areas d m selector false c.requires.map is flash mid first (inr c.in-Ok.ensures.ends.1.active)) c.in-Ok.place c.mount_both.result at
    (subst (λ (n : ℕ). BothEnds g.K.Backend.mounted_on g.K.Backend.stands g.K.Backend.damage g.K.Backend.contents g.K.Backend.room g.K.Priced.prices areas m e t.0 o.0 n c.mount_both.result) at
    (c.mount_both.ensures.ends t.0 o.0 (ap (slice_get areas) at ∙ t.1) (ap (λ (n : ℕ). slice_get areas (other_place areas n)) at ∙ o.1)))

pub returns-in-Err-clause-keeps : goal.returns-in-Err-clause-keeps
returns-in-Err-clause-keeps g c settings was =
    let d : Device = g.F.Flash.device c.args.flash.now in
    let m : Device = g.F.Flash.device c.trust.new.flash in
    let selector = c.requires.map.selector in
    keeps-fault g.K.Backend.damage g.K.Backend.contents g.K.Backend.serves c.args.map.now d m selector (mount_lost {T = ℕ} (Err c.in-Err.fault)) c.requires.map c.requires.map.selected (g.met.F.Flash.is_lawful c.args.flash.now) (g.met.F.Flash.is_lawful c.trust.new.flash)
    (c.in-Err.ensures.touches selector c.requires.map.selected) c.in-Err.fault c.in-Err.ensures.ends settings was

pub returns-in-Err-clause-trusted : goal.returns-in-Err-clause-trusted
returns-in-Err-clause-trusted g c =
    let d : Device = g.F.Flash.device c.args.flash.now in
    let m : Device = g.F.Flash.device c.trust.new.flash in
    let selector = c.requires.map.selector in
    trusted-fault g.K.Backend.damage g.K.Backend.contents g.K.Backend.serves c.args.map.now d m selector (mount_lost {T = ℕ} (Err c.in-Err.fault)) c.requires.map c.requires.map.selected (g.met.F.Flash.is_lawful c.args.flash.now) (g.met.F.Flash.is_lawful c.trust.new.flash)
    (c.in-Err.ensures.touches selector c.requires.map.selected) c.in-Err.fault c.in-Err.ensures.ends

pub returns-clause-trusted : goal.returns-clause-trusted
returns-clause-trusted g c =
    let d : Device = g.F.Flash.device c.args.flash.now in
    let m : Device = g.F.Flash.device c.trust.new.flash in
    let e : Device = g.F.Flash.device c.mount_both.new.flash in
    let areas = c.args.map.now in
    let at : c.in-Ok.place ≡ trusted_on c.args.map.now d = c.in-Ok.ensures.ends.0 in
    let selector = c.requires.map.selector in
    let is = c.requires.map.selected in
    let t = store-there areas (trusted_on areas d) (trusted-stores g.K.Backend.serves areas d c.requires.map) in
    let others = other-is g.K.Backend.serves areas d c.requires.map (trusted_on areas d) in
    let o = store-there areas (other_place areas (trusted_on areas d)) others.stores in
    let first = c.in-Ok.ensures.touches selector is in
    let there = ap (slice_get areas) at ∙ t.1 in
    let beside = ap (λ (n : ℕ). slice_get areas (other_place areas n)) at ∙ o.1 in
    let second = c.mount_both.ensures.touches t.0 o.0 there beside in
    let s-same = c.mount_both.ensures.selector selector is in
    trusted-both g.K.Backend.damage g.K.Backend.contents g.K.Backend.serves areas d m selector false c.requires.map is (g.met.F.Flash.is_lawful c.args.flash.now) (g.met.F.Flash.is_lawful c.trust.new.flash) first g.K.Backend.rests
    (λ x area fine lawful served blank. g.met.K.Priced.blank_reads x area fine lawful served blank) (λ x area fine lawful served blank. g.met.K.Priced.blank_empty x area fine lawful served blank)
    (λ x area fine lawful served blank. g.met.K.Priced.blank_rests x area fine lawful served blank) e t.0 o.0 t.1 o.1
    (selector-active-still areas selector is m e second.banks s-same ∙ c.in-Ok.ensures.ends.1.active)
    (c.mount_both.ensures.spares t.0 o.0 there beside) (c.mount_both.ensures.idle t.0 o.0 there beside)

pub returns-clause-keeps : goal.returns-clause-keeps
returns-clause-keeps g c settings was =
    let d : Device = g.F.Flash.device c.args.flash.now in
    let m : Device = g.F.Flash.device c.trust.new.flash in
    let e : Device = g.F.Flash.device c.mount_both.new.flash in
    let areas = c.args.map.now in
    let at : c.in-Ok.place ≡ trusted_on c.args.map.now d = c.in-Ok.ensures.ends.0 in
    let selector = c.requires.map.selector in
    let is = c.requires.map.selected in
    let t = store-there areas (trusted_on areas d) (trusted-stores g.K.Backend.serves areas d c.requires.map) in
    let others = other-is g.K.Backend.serves areas d c.requires.map (trusted_on areas d) in
    let o = store-there areas (other_place areas (trusted_on areas d)) others.stores in
    let first = c.in-Ok.ensures.touches selector is in
    let there = ap (slice_get areas) at ∙ t.1 in
    let beside = ap (λ (n : ℕ). slice_get areas (other_place areas n)) at ∙ o.1 in
    let second = c.mount_both.ensures.touches t.0 o.0 there beside in
    let s-same = c.mount_both.ensures.selector selector is in
    keeps-both g.K.Backend.damage g.K.Backend.contents g.K.Backend.serves areas d m selector false c.requires.map is (g.met.F.Flash.is_lawful c.args.flash.now) (g.met.F.Flash.is_lawful c.trust.new.flash) first g.K.Backend.rests
    (λ x area fine lawful served blank. g.met.K.Priced.blank_reads x area fine lawful served blank) (λ x area fine lawful served blank. g.met.K.Priced.blank_empty x area fine lawful served blank)
    (λ x area fine lawful served blank. g.met.K.Priced.blank_rests x area fine lawful served blank) e t.0 o.0 t.1 o.1
    (selector-active-still areas selector is m e second.banks s-same ∙ c.in-Ok.ensures.ends.1.active)
    (c.mount_both.ensures.spares t.0 o.0 there beside) (c.mount_both.ensures.idle t.0 o.0 there beside)
    (selector-damage-still areas selector is m e second.banks s-same ∙ c.in-Ok.ensures.ends.1.sound_still) settings was

pub returns-clause-rests : goal.returns-clause-rests
returns-clause-rests g c =
    rests-behind g.K.Backend.mounted_on g.K.Backend.stands g.K.Backend.damage g.K.Backend.contents g.K.Backend.rests g.met.K.Backend.stands_reads g.met.K.Backend.stands_rests (g.F.Flash.device c.mount_both.new.flash) g.K.Backend.room g.K.Priced.prices c.args.map.now
    c.requires.map.selector (g.F.Flash.device c.args.flash.now) c.mount_both.result (returns-clause-trusted g c) (returns-clause-ends g c c.requires.map.selector c.requires.map.selected)

pub returns-in-Err-clause-idle : goal.returns-in-Err-clause-idle
returns-in-Err-clause-idle g c rests = c.trust.ensures.idle rests.selector rests.named

pub returns-clause-idle : goal.returns-clause-idle
returns-clause-idle g c rests =
    let d : Device = g.F.Flash.device c.args.flash.now in
    let m : Device = g.F.Flash.device c.trust.new.flash in
    let e : Device = g.F.Flash.device c.mount_both.new.flash in
    let areas = c.args.map.now in
    let at : c.in-Ok.place ≡ trusted_on c.args.map.now d = c.in-Ok.ensures.ends.0 in
    let same : m ≡ d = c.trust.ensures.idle rests.selector rests.named in
    let later = c.mount_both.ensures.idle rests.trusted rests.other (ap (slice_get areas) at ∙ rests.placed.trusted_there) (ap (λ (n : ℕ). slice_get areas (other_place areas n)) at ∙ rests.placed.other_there)
    (subst (λ (x : Device). HoldsOn g.K.Backend.rests x rests.trusted) (sym same) rests.trusted_rests) (subst (λ (x : Device). HoldsOn g.K.Backend.rests x rests.other) (sym same) rests.other_rests)
    (subst (λ (x : Device). HoldsMap g.K.Backend.damage g.K.Backend.contents x rests.other (on g.K.Backend.contents x rests.trusted)) (sym same) rests.same) in
    later ∙ same

pub returns-in-Err-clause-at_most : goal.returns-in-Err-clause-at_most
returns-in-Err-clause-at_most g c selector trusted other is there beside =
    let d : Device = g.F.Flash.device c.args.flash.now in
    mounts-first d (g.F.Flash.device c.trust.new.flash) selector (both_units d trusted other (maps.len (on g.K.Backend.contents d trusted))) (c.trust.ensures.at_most selector is)

pub returns-clause-at_most : goal.returns-clause-at_most
returns-clause-at_most g c selector trusted other is there beside =
    let d : Device = g.F.Flash.device c.args.flash.now in
    let m : Device = g.F.Flash.device c.trust.new.flash in
    let e : Device = g.F.Flash.device c.mount_both.new.flash in
    let areas = c.args.map.now in
    let at : c.in-Ok.place ≡ trusted_on c.args.map.now d = c.in-Ok.ensures.ends.0 in
    let first = c.in-Ok.ensures.touches selector is in
    let t-same = store-beside g.K.Backend.serves areas d m selector false c.requires.map is (g.met.F.Flash.is_lawful c.args.flash.now) (g.met.F.Flash.is_lawful c.trust.new.flash) first (trusted_on areas d) trusted there (trusted-stores g.K.Backend.serves areas d c.requires.map) in
    mounts-spend d m e selector trusted other (on g.K.Backend.contents d trusted) (on g.K.Backend.contents m trusted) first.banks (still g.K.Backend.contents d m trusted first.banks t-same) (c.trust.ensures.at_most selector is)
    (c.mount_both.ensures.at_most trusted other (ap (slice_get areas) at ∙ there) (ap (λ (n : ℕ). slice_get areas (other_place areas n)) at ∙ beside))

pub returns-in-Err-clause-copy : goal.returns-in-Err-clause-copy
returns-in-Err-clause-copy g c selector trusted other is there beside =
    let d : Device = g.F.Flash.device c.args.flash.now in
    let m : Device = g.F.Flash.device c.trust.new.flash in
    let areas = c.args.map.now in
    let first = c.in-Err.ensures.touches selector is in
    let others = other-is g.K.Backend.serves areas d c.requires.map (trusted_on areas d) in
    let flash = g.met.F.Flash.is_lawful c.args.flash.now in
    let mid = g.met.F.Flash.is_lawful c.trust.new.flash in
    let lost = mount_lost {T = ℕ} (Err c.in-Err.fault) in
    let t-same = store-beside g.K.Backend.serves areas d m selector lost c.requires.map is flash mid first (trusted_on areas d) trusted there (trusted-stores g.K.Backend.serves areas d c.requires.map) in
    let o-same = store-beside g.K.Backend.serves areas d m selector lost c.requires.map is flash mid first (other_place areas (trusted_on areas d)) other beside others.stores in
    subst (λ (l : Bool). SparesAreas g.K.Backend.damage g.K.Backend.contents g.K.Backend.rests areas l d m selector trusted other) (lost-same ℕ (Mirror g.row.K.Denot) c.in-Err.fault)
    (spares-selector g.K.Backend.damage g.K.Backend.contents g.K.Backend.rests d m selector trusted other first.banks t-same o-same (c.trust.ensures.at_most selector is) areas lost (c.in-Err.ensures.records selector is))

pub returns-clause-copy : goal.returns-clause-copy
returns-clause-copy g c selector trusted other is there beside =
    let d : Device = g.F.Flash.device c.args.flash.now in
    let m : Device = g.F.Flash.device c.trust.new.flash in
    let e : Device = g.F.Flash.device c.mount_both.new.flash in
    let areas = c.args.map.now in
    let at : c.in-Ok.place ≡ trusted_on c.args.map.now d = c.in-Ok.ensures.ends.0 in
    let first = c.in-Ok.ensures.touches selector is in
    let others = other-is g.K.Backend.serves areas d c.requires.map (trusted_on areas d) in
    let flash = g.met.F.Flash.is_lawful c.args.flash.now in
    let mid = g.met.F.Flash.is_lawful c.trust.new.flash in
    let t-same = store-beside g.K.Backend.serves areas d m selector false c.requires.map is flash mid first (trusted_on areas d) trusted there (trusted-stores g.K.Backend.serves areas d c.requires.map) in
    let o-same = store-beside g.K.Backend.serves areas d m selector false c.requires.map is flash mid first (other_place areas (trusted_on areas d)) other beside others.stores in
    let here = ap (slice_get areas) at ∙ there in
    let next = ap (λ (n : ℕ). slice_get areas (other_place areas n)) at ∙ beside in
    let banks : e.banks ≡ m.banks = (c.mount_both.ensures.touches trusted other here next).banks in
    spares-all g.K.Backend.damage g.K.Backend.contents g.K.Backend.rests d m selector trusted other first.banks t-same o-same (c.trust.ensures.at_most selector is) e
    (c.mount_both.ensures.spares trusted other here next) areas (mount_lost c.mount_both.result)
    (λ none. records-behind areas d m e selector (mount_lost c.mount_both.result) banks (c.mount_both.ensures.selector selector is) (c.in-Ok.ensures.records selector is none))

pub returns-in-Err-clause-owes : goal.returns-in-Err-clause-owes
returns-in-Err-clause-owes g c selector trusted other is there beside =
    let d : Device = g.F.Flash.device c.args.flash.now in
    let m : Device = g.F.Flash.device c.trust.new.flash in
    let areas = c.args.map.now in
    let first = c.in-Err.ensures.touches selector is in
    let others = other-is g.K.Backend.serves areas d c.requires.map (trusted_on areas d) in
    let flash = g.met.F.Flash.is_lawful c.args.flash.now in
    let mid = g.met.F.Flash.is_lawful c.trust.new.flash in
    let lost = mount_lost {T = ℕ} (Err c.in-Err.fault) in
    let t-same = store-beside g.K.Backend.serves areas d m selector lost c.requires.map is flash mid first (trusted_on areas d) trusted there (trusted-stores g.K.Backend.serves areas d c.requires.map) in
    let o-same = store-beside g.K.Backend.serves areas d m selector lost c.requires.map is flash mid first (other_place areas (trusted_on areas d)) other beside others.stores in
    owed-selector g.K.Backend.owes g.K.Backend.damage g.K.Backend.contents (naming_units areas d selector) d m trusted other first.banks t-same o-same
    (naming-spent areas d m selector (c.trust.ensures.at_most selector is) (c.trust.ensures.named selector is))

pub returns-clause-owes : goal.returns-clause-owes
returns-clause-owes g c selector trusted other is there beside =
    let d : Device = g.F.Flash.device c.args.flash.now in
    let m : Device = g.F.Flash.device c.trust.new.flash in
    let e : Device = g.F.Flash.device c.mount_both.new.flash in
    let areas = c.args.map.now in
    let at : c.in-Ok.place ≡ trusted_on c.args.map.now d = c.in-Ok.ensures.ends.0 in
    let first = c.in-Ok.ensures.touches selector is in
    let others = other-is g.K.Backend.serves areas d c.requires.map (trusted_on areas d) in
    let flash = g.met.F.Flash.is_lawful c.args.flash.now in
    let mid = g.met.F.Flash.is_lawful c.trust.new.flash in
    let t-same = store-beside g.K.Backend.serves areas d m selector false c.requires.map is flash mid first (trusted_on areas d) trusted there (trusted-stores g.K.Backend.serves areas d c.requires.map) in
    let o-same = store-beside g.K.Backend.serves areas d m selector false c.requires.map is flash mid first (other_place areas (trusted_on areas d)) other beside others.stores in
    owed-behind g.K.Backend.owes g.K.Backend.damage g.K.Backend.contents (naming_units areas d selector) d m e trusted other first.banks t-same o-same
    (naming-spent areas d m selector (c.trust.ensures.at_most selector is) (c.trust.ensures.named selector is))
    (c.mount_both.ensures.owes trusted other (ap (slice_get areas) at ∙ there) (ap (λ (n : ℕ). slice_get areas (other_place areas n)) at ∙ beside))

pub returns-in-Err-clause-left : goal.returns-in-Err-clause-left
returns-in-Err-clause-left g c selector is = c.trust.ensures.left selector is

pub returns-clause-left : goal.returns-clause-left
returns-clause-left g c selector is =
    let d : Device = g.F.Flash.device c.args.flash.now in
    let m : Device = g.F.Flash.device c.trust.new.flash in
    let e : Device = g.F.Flash.device c.mount_both.new.flash in
    let areas = c.args.map.now in
    let at : c.in-Ok.place ≡ trusted_on c.args.map.now d = c.in-Ok.ensures.ends.0 in
    let t = store-there areas (trusted_on areas d) (trusted-stores g.K.Backend.serves areas d c.requires.map) in
    let others = other-is g.K.Backend.serves areas d c.requires.map (trusted_on areas d) in
    let o = store-there areas (other_place areas (trusted_on areas d)) others.stores in
    let second = c.mount_both.ensures.touches t.0 o.0 (ap (slice_get areas) at ∙ t.1) (ap (λ (n : ℕ). slice_get areas (other_place areas n)) at ∙ o.1) in
    due-still d m e selector second.banks (c.mount_both.ensures.selector selector is) (c.trust.ensures.left selector is)
