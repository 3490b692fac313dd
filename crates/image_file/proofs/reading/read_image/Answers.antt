use Rattle.std.proofs.Common.{◌≡◌, ℕ, ◌<◌, List, length, map, sym, subst, ap, ◌∙◌, arith}
use Rattle.flash_sim.specs.declared.flash.Bank.{Bank}
use Rattle.flash_sim.specs.Bank.{bank_at}
use Rattle.flash_sim.specs.Contents.{contents}
use Rattle.image_file.specs.declared.image.Image.{Image}
use Rattle.image_file.specs.Format.{Plain, plain, plain_area, version_of}
use Rattle.image_file.specs.Lawful.{IsImageBank, HasNeeded}
use Rattle.image_file.specs.Said.{version_said, bank_count, area_count, all_banks, all_areas, banks_said, areas_said, image_said}
use Rattle.image_file.specs.Table.{BankAt, AreaAt, AllHold, FirstFault, rows_of, contents_rows, rows}
use Rattle.image_file.specs.Reading.{IsImageFile}
use Rattle.image_file.proofs.ReadingLemmas.{exit}
use Rattle.image_file.proofs.ImageLemmas.{bank_fault, area_fault, needed_fault, contents_fault, contents_start, areas_start, lawful_banks, all_hold, same_image, said_version, plain_from, is_image_file, contrary}
use Rattle.image_file.proofs.reading.read_image.Goals as goal

pub returns-in_err-banks : goal.returns-in_err-banks
returns-in_err-banks c =
    let bytes : List ℕ = c.args.bytes.now in
    exit (λ (image : Image). IsImageFile bytes (plain image)) (FirstFault bytes (rows_of BankAt c.in_ok-counts.counts.banks)) (FirstFault bytes (rows bytes))
    c.from_residual-in_err-banks.result c.in_err-banks.field-0.0 c.from_residual-in_err-banks.ensures.1
    (λ at why fault. bank_fault bytes c.in_ok-counts.ensures.0 at why (subst (λ (n : ℕ). FirstFault bytes (rows_of BankAt n) at why) c.in_ok-counts.ensures.2 fault)) c.in_err-banks.ensures

pub read_areas-requires-clause-there : goal.read_areas-requires-clause-there
read_areas-requires-clause-there c =
    let bytes : List ℕ = c.args.bytes.now in
    let banks : AllHold bytes (rows_of BankAt (bank_count bytes)) = subst (λ (n : ℕ). AllHold bytes (rows_of BankAt n)) c.in_ok-counts.ensures.2 c.in_ok-banks.ensures.1 in
    areas_start bytes c.in_ok-counts.ensures.0 banks

pub returns-in_err-map : goal.returns-in_err-map
returns-in_err-map c =
    let bytes : List ℕ = c.args.bytes.now in
    let banks : AllHold bytes (rows_of BankAt (bank_count bytes)) = subst (λ (n : ℕ). AllHold bytes (rows_of BankAt n)) c.in_ok-counts.ensures.2 c.in_ok-banks.ensures.1 in
    exit (λ (image : Image). IsImageFile bytes (plain image)) (FirstFault bytes (rows_of AreaAt c.in_ok-counts.counts.areas)) (FirstFault bytes (rows bytes))
    c.from_residual-in_err-map.result c.in_err-map.field-0.0 c.from_residual-in_err-map.ensures.1
    (λ at why fault. area_fault bytes c.in_ok-counts.ensures.0 banks at why (subst (λ (n : ℕ). FirstFault bytes (rows_of AreaAt n) at why) c.in_ok-counts.ensures.3 fault)) c.in_err-map.ensures

pub returns-then-not-has_needed : goal.returns-then-not-has_needed
returns-then-not-has_needed c =
    let bytes : List ℕ = c.args.bytes.now in
    let header = c.in_ok-counts.ensures.0 in
    let banks : AllHold bytes (rows_of BankAt (bank_count bytes)) = subst (λ (n : ℕ). AllHold bytes (rows_of BankAt n)) c.in_ok-counts.ensures.2 c.in_ok-banks.ensures.1 in
    let areas : AllHold bytes (rows_of AreaAt (area_count bytes)) = subst (λ (n : ℕ). AllHold bytes (rows_of AreaAt n)) c.in_ok-counts.ensures.3 c.in_ok-map.ensures.1 in
    let said : map plain_area c.in_ok-map.map ≡ all_areas bytes = c.in_ok-map.ensures.0 ∙ ap (areas_said bytes) c.in_ok-counts.ensures.3 in
    needed_fault bytes header banks areas (λ is. contrary c.has_needed.result (c.has_needed.ensures.1 (subst HasNeeded (sym said) is)) c.if-not-has_needed.true)

pub read_contents-requires-clause-lawful : goal.read_contents-requires-clause-lawful
read_contents-requires-clause-lawful c = λ i below.
    let bytes : List ℕ = c.args.bytes.now in
    let header = c.in_ok-counts.ensures.0 in
    let banks : AllHold bytes (rows_of BankAt (bank_count bytes)) = subst (λ (n : ℕ). AllHold bytes (rows_of BankAt n)) c.in_ok-counts.ensures.2 c.in_ok-banks.ensures.1 in
    let is : c.deref-2.result.now ≡ all_banks bytes = c.deref-2.ensures.value ∙ c.in_ok-banks.ensures.0 ∙ ap (banks_said bytes) c.in_ok-counts.ensures.2 in
    subst (λ (bs : List Bank). IsImageBank (version_said bytes) (bank_at bs i)) (sym is) (lawful_banks bytes header banks i (subst (λ (bs : List Bank). i < length bs) is below))

pub read_contents-requires-clause-start : goal.read_contents-requires-clause-start
read_contents-requires-clause-start c = omega (arith, c.in_ok-counts.ensures.2, c.in_ok-counts.ensures.3)

pub read_contents-requires-clause-there : goal.read_contents-requires-clause-there
read_contents-requires-clause-there c =
    let bytes : List ℕ = c.args.bytes.now in
    let header = c.in_ok-counts.ensures.0 in
    let banks : AllHold bytes (rows_of BankAt (bank_count bytes)) = subst (λ (n : ℕ). AllHold bytes (rows_of BankAt n)) c.in_ok-counts.ensures.2 c.in_ok-banks.ensures.1 in
    let areas : AllHold bytes (rows_of AreaAt (area_count bytes)) = subst (λ (n : ℕ). AllHold bytes (rows_of AreaAt n)) c.in_ok-counts.ensures.3 c.in_ok-map.ensures.1 in
    let said : map plain_area c.in_ok-map.map ≡ all_areas bytes = c.in_ok-map.ensures.0 ∙ ap (areas_said bytes) c.in_ok-counts.ensures.3 in
    omega (arith, contents_start bytes header banks areas, c.in_ok-counts.ensures.2, c.in_ok-counts.ensures.3)

pub returns-in_err-copies : goal.returns-in_err-copies
returns-in_err-copies c =
    let bytes : List ℕ = c.args.bytes.now in
    let header = c.in_ok-counts.ensures.0 in
    let banks : AllHold bytes (rows_of BankAt (bank_count bytes)) = subst (λ (n : ℕ). AllHold bytes (rows_of BankAt n)) c.in_ok-counts.ensures.2 c.in_ok-banks.ensures.1 in
    let areas : AllHold bytes (rows_of AreaAt (area_count bytes)) = subst (λ (n : ℕ). AllHold bytes (rows_of AreaAt n)) c.in_ok-counts.ensures.3 c.in_ok-map.ensures.1 in
    let said : map plain_area c.in_ok-map.map ≡ all_areas bytes = c.in_ok-map.ensures.0 ∙ ap (areas_said bytes) c.in_ok-counts.ensures.3 in
    let needed : HasNeeded (all_areas bytes) = subst HasNeeded said (c.has_needed.ensures.0 c.if-not-has_needed.false) in
    exit (λ (image : Image). IsImageFile bytes (plain image)) (FirstFault bytes (contents_rows bytes)) (FirstFault bytes (rows bytes))
    c.from_residual-in_err-copies.result c.in_err-copies.field-0.0 c.from_residual-in_err-copies.ensures.1
    (λ at why fault. contents_fault bytes header banks areas needed at why fault) c.in_err-copies.ensures

pub returns : goal.returns
returns c =
    let bytes : List ℕ = c.args.bytes.now in
    let header = c.in_ok-counts.ensures.0 in
    let banks : AllHold bytes (rows_of BankAt (bank_count bytes)) = subst (λ (n : ℕ). AllHold bytes (rows_of BankAt n)) c.in_ok-counts.ensures.2 c.in_ok-banks.ensures.1 in
    let areas : AllHold bytes (rows_of AreaAt (area_count bytes)) = subst (λ (n : ℕ). AllHold bytes (rows_of AreaAt n)) c.in_ok-counts.ensures.3 c.in_ok-map.ensures.1 in
    let said : map plain_area c.in_ok-map.map ≡ all_areas bytes = c.in_ok-map.ensures.0 ∙ ap (areas_said bytes) c.in_ok-counts.ensures.3 in
    let needed : HasNeeded (all_areas bytes) = subst HasNeeded said (c.has_needed.ensures.0 c.if-not-has_needed.false) in
    let version : version_of c.in_ok-map.map ≡ version_said bytes = said_version bytes header c.in_ok-map.map said in
    let same : plain_from (version_of c.in_ok-map.map) c.in_ok-banks.banks.items (map plain_area c.in_ok-map.map) (contents c.in_ok-copies.copies.items) ≡ image_said bytes = same_image bytes (version_of c.in_ok-map.map) c.in_ok-banks.banks.items (map plain_area c.in_ok-map.map) (contents c.in_ok-copies.copies.items) version (c.in_ok-banks.ensures.0 ∙ ap (banks_said bytes) c.in_ok-counts.ensures.2) said c.in_ok-copies.ensures.0 in
    subst (λ (image : Plain). IsImageFile bytes image) (sym same) (is_image_file bytes (all_hold bytes header banks areas needed c.in_ok-copies.ensures.1))
