-- the bytes are those that the flash has, but for the area's
use Rattle.std.specs.Prelude.{OnOk}
use Rattle.std.proofs.Common.{◌≡◌, ◌+◌, ◌*◌, ◌≤◌, ℕ, List, [], length, get_or, replicate, set, ap, subst, sym, ◌∙◌, arith}
use Rattle.std.specs.Global.{Vec}
use Rattle.std.proofs.lemmas.List.{get_or_default, length-map}
use Rattle.flash_sim.specs.Bank.{IsLawful, bank_at, no_bank}
use Rattle.flash_sim.specs.Contents.{contents}
use Rattle.flash_sim.specs.Device.{Device, loaded, overwritten}
use Rattle.flash_sim.specs.declared.flash.Bank.{Bank}
use Rattle.flash_map.specs.Area.{sector_size}
use Rattle.mirror_session.specs.LineDone.{blanked}
use Rattle.mirror_session.proofs.BlankLemmas.{blank_lawful, fits}
use Rattle.mirror_session.proofs.blanking.blank_area.Goals as goal

pub erase_in-requires-clause-bank : goal.erase_in-requires-clause-bank
erase_in-requires-clause-bank g c =
    let d = g.B.Flash.device c.args.bench.now in
    let held : contents c.in_ok-bytes.bytes.items ≡ d.bytes = c.in_ok-bytes.ensures in
    let count = (g.met.B.Flash.is_lawful c.args.bench.now).count in
    let has = c.requires.in_bank.has_bank in
    omega (arith, ap (λ (l : List (List ℕ)). length l) held, length-map c.in_ok-bytes.bytes.items (λ (v : Vec ℕ). v.items), count, has)

pub erase_in-requires-clause-range : goal.erase_in-requires-clause-range
erase_in-requires-clause-range g c =
    let d = g.B.Flash.device c.args.bench.now in
    let area = c.args.area.now in
    let held : contents c.in_ok-bytes.bytes.items ≡ d.bytes = c.in_ok-bytes.ensures in
    let banks : c.in_ok-banks.banks.items ≡ d.banks = c.in_ok-banks.ensures.items ∙ c.banks.ensures in
    let bank : c.index.result.now ≡ bank_at d.banks area.bank = c.index.ensures ∙ ap (λ (l : List Bank). get_or l area.bank c.index.result.now) banks ∙ get_or_default d.banks area.bank c.index.result.now no_bank c.requires.in_bank.has_bank in
    let size : c.index.result.now.sector ≡ sector_size d area = ap (λ (b : Bank). b.sector) bank in
    subst (λ (l : List (List ℕ)). area.first * c.index.result.now.sector + area.sectors * c.index.result.now.sector ≤ length (get_or l area.bank [])) (sym held)
    (subst (λ (n : ℕ). area.first * n + area.sectors * n ≤ length (get_or d.bytes area.bank [])) (sym size) (fits d area (g.met.B.Flash.is_lawful c.args.bench.now) c.requires))

pub load-requires : goal.load-requires
load-requires g c =
    let d = g.B.Flash.device c.args.bench.now in
    let area = c.args.area.now in
    let held : contents c.in_ok-bytes.bytes.items ≡ d.bytes = c.in_ok-bytes.ensures in
    let banks : c.in_ok-banks.banks.items ≡ d.banks = c.in_ok-banks.ensures.items ∙ c.banks.ensures in
    let bank : c.index.result.now ≡ bank_at d.banks area.bank = c.index.ensures ∙ ap (λ (l : List Bank). get_or l area.bank c.index.result.now) banks ∙ get_or_default d.banks area.bank c.index.result.now no_bank c.requires.in_bank.has_bank in
    let size : c.index.result.now.sector ≡ sector_size d area = ap (λ (b : Bank). b.sector) bank in
    let made : contents c.erase_in.new.banks.items ≡ (blanked d area).bytes = c.erase_in.ensures
    ∙ ap (λ (l : List (List ℕ)). set l area.bank (overwritten (get_or l area.bank []) (area.first * c.index.result.now.sector) (replicate (area.sectors * c.index.result.now.sector) 0xFF))) held
    ∙ ap (λ (n : ℕ). set d.bytes area.bank (overwritten (get_or d.bytes area.bank []) (area.first * n) (replicate (area.sectors * n) 0xFF))) size in
    subst (λ (l : List Bank). IsLawful l (contents c.erase_in.new.banks.items)) (sym banks)
    (subst (λ (l : List (List ℕ)). IsLawful d.banks l) (sym made) (blank_lawful d area (g.met.B.Flash.is_lawful c.args.bench.now) c.requires))

pub returns-clause-ok : goal.returns-clause-ok
returns-clause-ok g c =
    let d = g.B.Flash.device c.args.bench.now in
    let area = c.args.area.now in
    let held : contents c.in_ok-bytes.bytes.items ≡ d.bytes = c.in_ok-bytes.ensures in
    let banks : c.in_ok-banks.banks.items ≡ d.banks = c.in_ok-banks.ensures.items ∙ c.banks.ensures in
    let bank : c.index.result.now ≡ bank_at d.banks area.bank = c.index.ensures ∙ ap (λ (l : List Bank). get_or l area.bank c.index.result.now) banks ∙ get_or_default d.banks area.bank c.index.result.now no_bank c.requires.in_bank.has_bank in
    let size : c.index.result.now.sector ≡ sector_size d area = ap (λ (b : Bank). b.sector) bank in
    let made : contents c.erase_in.new.banks.items ≡ (blanked d area).bytes = c.erase_in.ensures
    ∙ ap (λ (l : List (List ℕ)). set l area.bank (overwritten (get_or l area.bank []) (area.first * c.index.result.now.sector) (replicate (area.sectors * c.index.result.now.sector) 0xFF))) held
    ∙ ap (λ (n : ℕ). set d.bytes area.bank (overwritten (get_or d.bytes area.bank []) (area.first * n) (replicate (area.sectors * n) 0xFF))) size in
    let is : loaded d c.in_ok-banks.banks.items (contents c.erase_in.new.banks.items) ≡ blanked d area = ap (λ (l : List Bank). loaded d l (contents c.erase_in.new.banks.items)) banks ∙ ap (λ (l : List (List ℕ)). loaded d d.banks l) made in
    subst (λ (x : Device). OnOk c.load.result (g.B.Flash.device c.load.new.self ≡ x)) is c.load.ensures.ok
