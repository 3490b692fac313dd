-- The fields of the header, each a byte or four.
use Rattle.std.proofs.Common.{◌≡◌, inl, inr, ℕ, ◌<◌, ◌≤◌, Err, List, [], ◌∷◌, length, refl, sym, subst, ◌∙◌, arith}
use Rattle.std.specs.Prelude.{slice_index}
use Rattle.std.proofs.lemmas.Bool.{cases_lt}
use Rattle.image_file.specs.declared.image.ImageFault.{ImageFault}
use Rattle.image_file.specs.declared.image.ImageFault.TheVariants.{Bad}
use Rattle.image_file.specs.declared.image.ImageWhy.{ImageWhy}
use Rattle.image_file.specs.declared.image.ImageWhy.TheVariants.{BadMagic, BadVersion, BadBank, BadArea, Short}
use Rattle.image_file.specs.Lawful.{IsVersion}
use Rattle.image_file.specs.Said.{field_at, version_said}
use Rattle.image_file.specs.Table.{Row, Magic, Version, BankCount, AreaCount, Zero, Rule, Holds, Departs, FirstFault, header_rows, place, size, blame, cause}
use Rattle.image_file.specs.Reading.{Reads, ByteWithin, ByteFault}
use Rattle.image_file.proofs.ReadingLemmas.{ends}

-- a fault that is written out
pub said_fault : {X : Type 0} (P : X → Type 0) (Q : ℕ → ImageWhy → Type 0) (fault : ImageFault) (at : ℕ) (why : ImageWhy) → fault ≡ Bad at why → Q at why → Reads P Q (Err fault)
said_fault P Q fault at why is q = subst (λ (f : ImageFault). Reads P Q (Err f)) (sym is) q

is_version : (n : ℕ) → 1 ≤ n → n ≤ 2 → IsVersion n
is_version n least most = elim (cases_lt n 2) [ inl lt ↦ inl (omega arith) | inr le ↦ inr (omega arith) ]

version_within : (n : ℕ) → IsVersion n → (1 ≤ n) × (n ≤ 2)
version_within n (inl one) = (omega arith, omega arith)
version_within n (inr two) = (omega arith, omega arith)

-- bytes of the header that are what they must be
pub magic_holds : (bytes text : List ℕ) → (4 ≤ length bytes) × (text ≡ field_at bytes 0 4) × (length text ≡ 4) → text ≡ 0x5A ∷ 0x53 ∷ 0x49 ∷ 0x4D ∷ [] → Holds bytes Magic
magic_holds bytes text there is = record { whole = there.0; rule = sym there.1 ∙ is }

pub version_holds : (bytes : List ℕ) (byte : ℕ) → ByteWithin bytes 4 1 2 byte → Holds bytes Version
version_holds bytes byte is = record { whole = is.0; rule = is_version (version_said bytes) (omega (arith, is.1, is.2)) (omega (arith, is.1, is.3)) }

pub banks_hold : (bytes : List ℕ) (byte : ℕ) → ByteWithin bytes 5 1 2 byte → Holds bytes BankCount
banks_hold bytes byte is = record { whole = is.0; rule = (omega (arith, is.1, is.2), omega (arith, is.1, is.3)) }

pub areas_hold : (bytes : List ℕ) (byte : ℕ) → ByteWithin bytes 6 1 8 byte → Holds bytes AreaCount
areas_hold bytes byte is = record { whole = is.0; rule = (omega (arith, is.1, is.2), omega (arith, is.1, is.3)) }

pub zero_holds : (bytes : List ℕ) (byte : ℕ) → ByteWithin bytes 7 0 0 byte → Holds bytes Zero
zero_holds bytes byte is = record { whole = is.0; rule = omega (arith, is.1, is.3) }

-- the first of them that departs
module _ (bytes : List ℕ) where
  byte_departs : (row : Row) (at least most p : ℕ) (why : ImageWhy) → place bytes row ≡ at → size bytes row ≡ 1 → blame bytes row ≡ at → (Rule bytes row → (least ≤ slice_index bytes at) × (slice_index bytes at ≤ most)) → ByteFault bytes at least most (cause row) p why → Departs bytes row p why
  byte_departs row at least most p why is_place is_size is_blame within (inl short) = ends bytes row at 1 p why (sym is_place) (sym is_size) short
  byte_departs row at least most p why is_place is_size is_blame within (inr wrong) = inr (record {
    whole = omega (arith, wrong.0, is_place, is_size);
    broken = λ rule. wrong.1 (within rule);
    place = wrong.2 ∙ sym is_blame;
    cause = wrong.3;
  })

  pub short_magic : (p : ℕ) (why : ImageWhy) → (length bytes < 4) × (p ≡ length bytes) × (why ≡ Short) → FirstFault bytes header_rows p why
  short_magic p why short = inl (ends bytes Magic 0 4 p why refl refl short)

  pub bad_magic : (text : List ℕ) → (4 ≤ length bytes) × (text ≡ field_at bytes 0 4) × (length text ≡ 4) → (text ≡ 0x5A ∷ 0x53 ∷ 0x49 ∷ 0x4D ∷ [] → ⊥) → FirstFault bytes header_rows 0 BadMagic
  bad_magic text there other = inl (inr (record { whole = there.0; broken = λ is. other (there.1 ∙ is); place = refl; cause = refl }))

  pub version_fault : Holds bytes Magic → (p : ℕ) (why : ImageWhy) → ByteFault bytes 4 1 2 BadVersion p why → FirstFault bytes header_rows p why
  version_fault magic p why fault = inr (magic, inl (byte_departs Version 4 1 2 p why refl refl refl (version_within (version_said bytes)) fault))

  pub banks_fault : Holds bytes Magic → Holds bytes Version → (p : ℕ) (why : ImageWhy) → ByteFault bytes 5 1 2 BadBank p why → FirstFault bytes header_rows p why
  banks_fault magic version p why fault = inr (magic, inr (version, inl (byte_departs BankCount 5 1 2 p why refl refl refl (λ rule. rule) fault)))

  pub areas_fault : Holds bytes Magic → Holds bytes Version → Holds bytes BankCount → (p : ℕ) (why : ImageWhy) → ByteFault bytes 6 1 8 BadArea p why → FirstFault bytes header_rows p why
  areas_fault magic version banks p why fault = inr (magic, inr (version, inr (banks, inl (byte_departs AreaCount 6 1 8 p why refl refl refl (λ rule. rule) fault))))

  pub zero_fault : Holds bytes Magic → Holds bytes Version → Holds bytes BankCount → Holds bytes AreaCount → (p : ℕ) (why : ImageWhy) → ByteFault bytes 7 0 0 BadVersion p why → FirstFault bytes header_rows p why
  zero_fault magic version banks areas p why fault = inr (magic, inr (version, inr (banks, inr (areas, inl (byte_departs Zero 7 0 0 p why refl refl refl (λ rule. (omega arith, omega (arith, rule))) fault)))))
