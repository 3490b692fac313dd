-- Images without a log, and scripts without lines.
use Rattle.std.proofs.Common.{◌≡◌, ◌∙◌, ℕ, List, [], ◌∷◌, length, map, Some, Err, inl, refl, sym, ap, arith}
use Rattle.std.specs.Global.{Vec}
use Rattle.std.specs.List.{slice_get}
use Rattle.std.proofs.lemmas.Option.{none-some}
use Rattle.zs_host.specs.Outside.{Outside}
use Rattle.flash_map.specs.declared.area.Area.{Area}
use Rattle.image_file.specs.Format.{plain_area}
use Rattle.log_session.specs.declared.line.Line.{Line}
use Rattle.image_jobs.specs.declared.stops.Stop.{Stop}
use Rattle.image_jobs.specs.declared.stops.Stop.TheVariants.{Refused, HostFailed, NoMemory}
use Rattle.image_jobs.specs.Reading.{HasShortFile, LacksText, ReadsOr, most_script}
use Rattle.session_jobs.specs.LogInputs.{HasLines, HasNoLogArea, IsLogArea, LacksLines}

-- ---- areas

pub not_one : (areas : List Area) → (length areas ≡ 1 → ⊥) → HasNoLogArea areas
not_one areas differs area is = let one : length areas ≡ 1 = ap length is.only in differs one

pub only_area : (areas : List Area) (area : Area) → length areas ≡ 1 → slice_get areas 0 ≡ Some area → areas ≡ area ∷ []
only_area [] area one at = absurd (none-some area at)
only_area (a ∷ []) area one at = let same : a ≡ area = cc in ap (λ (x : Area). x ∷ []) same
only_area (a ∷ b ∷ areas) area one at = absurd (omega (arith, one))

-- the only area has this role
pub same_role : (areas : List Area) (area other : Area) → slice_get areas 0 ≡ Some area → IsLogArea areas other → other ≡ area
same_role areas area other at is =
    let there : Some other ≡ Some area = ap (λ (list : List Area). slice_get list 0) (sym is.only) ∙ at in cc there

pub no_plain_log : (areas : List Area) → HasNoLogArea areas → HasNoLogArea (map plain_area areas)
no_plain_log [] none area is = cc is.only
no_plain_log (a ∷ []) none area is =
    let same : plain_area a ≡ area = cc is.only in
    none a (record { only = refl; role = ap (λ (x : Area). x.role) same ∙ is.role })
no_plain_log (a ∷ b ∷ areas) none area is = cc is.only

-- ---- scripts

-- without a text there are no lines
pub no_lines : (limit : ℕ) (host host' : Outside) (name : List ℕ) (stop : Stop)
    → ReadsOr {X = Vec ℕ} (λ text. HasShortFile host name most_script text.items) (LacksText host name) host host' (Err stop)
    → ReadsOr {X = Vec Line} (λ lines. HasLines limit host name lines.items) (LacksLines limit host name) host host' (Err stop)
no_lines limit host host' name (Refused refusal) reads = (inl reads.0, reads.1)
no_lines limit host host' name HostFailed reads = reads
no_lines limit host host' name NoMemory reads = reads
