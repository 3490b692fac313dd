use Rattle.std.proofs.Common.{◌≡◌, ℕ, ◌<◌, List, length, ◌∙◌}
use Rattle.image_file.specs.declared.image.ImageWhy.{ImageWhy}
use Rattle.image_file.specs.declared.image.ImageWhy.TheVariants.{BadMagic, BadVersion, BadBank, BadArea, Short}
use Rattle.image_file.specs.declared.reading.Counts.{Counts}
use Rattle.image_file.specs.Said.{version_said, bank_count, area_count}
use Rattle.image_file.specs.Table.{AllHold, FirstFault, header_rows}
use Rattle.image_file.specs.Reading.{ByteFault}
use Rattle.image_file.proofs.ReadingLemmas.{exit}
use Rattle.image_file.proofs.ImageLemmas.{contrary}
use Rattle.image_file.proofs.HeaderLemmas.{said_fault, magic_holds, version_holds, banks_hold, areas_hold, zero_holds, short_magic, bad_magic, version_fault, banks_fault, areas_fault, zero_fault}
use Rattle.image_file.proofs.reading.read_header.Goals as goal

abbrev HasRead : List ℕ → Counts → Type 0
HasRead bytes counts = AllHold bytes header_rows × (counts.version ≡ version_said bytes) × (counts.banks ≡ bank_count bytes) × (counts.areas ≡ area_count bytes)

pub returns-in_err-field : goal.returns-in_err-field
returns-in_err-field c =
    let bytes : List ℕ = c.args.bytes.now in
    exit (HasRead bytes) (λ (p : ℕ) (why : ImageWhy). (length bytes < 4) × (p ≡ length bytes) × (why ≡ Short)) (FirstFault bytes header_rows)
    c.from_residual.result c.in_err-field.field-0.0 c.from_residual.ensures.1 (short_magic bytes) c.in_err-field.ensures

pub returns-then-not-is_magic : goal.returns-then-not-is_magic
returns-then-not-is_magic c =
    let bytes : List ℕ = c.args.bytes.now in
    said_fault (HasRead bytes) (FirstFault bytes header_rows) c.bad.result 0 BadMagic c.bad.ensures
    (bad_magic bytes c.in_ok-field.field-0.now c.in_ok-field.ensures (λ is. contrary c.is_magic.result (c.is_magic.ensures.1 is) c.if-not-is_magic.true))

pub byte_within-requires : goal.byte_within-requires
byte_within-requires c = c.in_ok-field.ensures.0

pub returns-in_err-version : goal.returns-in_err-version
returns-in_err-version c =
    let bytes : List ℕ = c.args.bytes.now in
    let magic = magic_holds bytes c.in_ok-field.field-0.now c.in_ok-field.ensures (c.is_magic.ensures.0 c.if-not-is_magic.false) in
    exit (HasRead bytes) (ByteFault bytes 4 1 2 BadVersion) (FirstFault bytes header_rows)
    c.from_residual-in_err-version.result c.in_err-version.field-0.0 c.from_residual-in_err-version.ensures.1 (version_fault bytes magic) c.in_err-version.ensures

pub byte_within-requires-2 : goal.byte_within-requires-2
byte_within-requires-2 c = c.in_ok-version.ensures.0

pub returns-in_err-banks : goal.returns-in_err-banks
returns-in_err-banks c =
    let bytes : List ℕ = c.args.bytes.now in
    let magic = magic_holds bytes c.in_ok-field.field-0.now c.in_ok-field.ensures (c.is_magic.ensures.0 c.if-not-is_magic.false) in
    let version = version_holds bytes c.in_ok-version.version c.in_ok-version.ensures in
    exit (HasRead bytes) (ByteFault bytes 5 1 2 BadBank) (FirstFault bytes header_rows)
    c.from_residual-in_err-banks.result c.in_err-banks.field-0.0 c.from_residual-in_err-banks.ensures.1 (banks_fault bytes magic version) c.in_err-banks.ensures

pub byte_within-requires-3 : goal.byte_within-requires-3
byte_within-requires-3 c = c.in_ok-banks.ensures.0

pub returns-in_err-areas : goal.returns-in_err-areas
returns-in_err-areas c =
    let bytes : List ℕ = c.args.bytes.now in
    let magic = magic_holds bytes c.in_ok-field.field-0.now c.in_ok-field.ensures (c.is_magic.ensures.0 c.if-not-is_magic.false) in
    let version = version_holds bytes c.in_ok-version.version c.in_ok-version.ensures in
    let banks = banks_hold bytes c.in_ok-banks.banks c.in_ok-banks.ensures in
    exit (HasRead bytes) (ByteFault bytes 6 1 8 BadArea) (FirstFault bytes header_rows)
    c.from_residual-in_err-areas.result c.in_err-areas.field-0.0 c.from_residual-in_err-areas.ensures.1 (areas_fault bytes magic version banks) c.in_err-areas.ensures

pub byte_within-requires-4 : goal.byte_within-requires-4
byte_within-requires-4 c = c.in_ok-areas.ensures.0

pub returns-in_err-byte_within : goal.returns-in_err-byte_within
returns-in_err-byte_within c =
    let bytes : List ℕ = c.args.bytes.now in
    let magic = magic_holds bytes c.in_ok-field.field-0.now c.in_ok-field.ensures (c.is_magic.ensures.0 c.if-not-is_magic.false) in
    let version = version_holds bytes c.in_ok-version.version c.in_ok-version.ensures in
    let banks = banks_hold bytes c.in_ok-banks.banks c.in_ok-banks.ensures in
    let areas = areas_hold bytes c.in_ok-areas.areas c.in_ok-areas.ensures in
    exit (HasRead bytes) (ByteFault bytes 7 0 0 BadVersion) (FirstFault bytes header_rows)
    c.from_residual-in_err-byte_within.result c.in_err-byte_within.field-0.0 c.from_residual-in_err-byte_within.ensures.1 (zero_fault bytes magic version banks areas) c.in_err-byte_within.ensures

pub returns : goal.returns
returns c =
    let bytes : List ℕ = c.args.bytes.now in
    let magic = magic_holds bytes c.in_ok-field.field-0.now c.in_ok-field.ensures (c.is_magic.ensures.0 c.if-not-is_magic.false) in
    let version = version_holds bytes c.in_ok-version.version c.in_ok-version.ensures in
    let banks = banks_hold bytes c.in_ok-banks.banks c.in_ok-banks.ensures in
    let areas = areas_hold bytes c.in_ok-areas.areas c.in_ok-areas.ensures in
    let zero = zero_holds bytes c.in_ok-byte_within.field-0 c.in_ok-byte_within.ensures in
    ((magic, (version, (banks, (areas, (zero, tt))))), c.in_ok-version.ensures.1, c.from.ensures ∙ c.in_ok-banks.ensures.1, c.from-2.ensures ∙ c.in_ok-areas.ensures.1)
