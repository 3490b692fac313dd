-- A job on items that is sound is not refused.
use Rattle.std.proofs.Common.{◌≡◌, ℕ, List, [], ◌∷◌, Some, inl, inr, sym, ap, subst, ◌∙◌}
use Rattle.std.specs.Prelude.{IsSome}
use Rattle.flash_sim.specs.Device.{Device}
use Rattle.flash_map.specs.declared.area.Area.{Area}
use Rattle.flash_map.specs.Area.{value_limit}
use Rattle.zs_host.specs.Outside.{Outside}
use Rattle.image_file.specs.Format.{Plain, plain_area}
use Rattle.script_lines.specs.declared.why.LineWhy.{LineWhy}
use Rattle.script_lines.specs.Script.{IsBadLine}
use Rattle.script_lines.proofs.ScriptLaws.{one_script}
use Rattle.item_session.specs.declared.ids.Ids.{Ids}
use Rattle.item_session.specs.declared.line.Line.{Line}
use Rattle.item_session.specs.Line.{ids_end, item_forms}
use Rattle.image_jobs.specs.declared.stops.Refusal.{Refusal}
use Rattle.image_jobs.specs.declared.stops.Refusal.TheVariants.{BadSpec, NoFile, BadFile, NoLog, NoItems, NoMirror, BadArea, Unfit, BadScript}
use Rattle.image_jobs.specs.Images.{HasAreas}
use Rattle.image_jobs.specs.Reading.{HasImage, LacksText}
use Rattle.session_jobs.specs.ItemInputs.{HasBadLine, HasLines, IsItemArea, LacksItems, LacksLines, ids_of}
use Rattle.session_jobs.specs.ItemJobs.{FindsItemDamage, LacksItemLines, RefusesItems, damage_in}
use Rattle.image_tool.specs.Complete.{IsSoundItems}
use Rattle.image_tool.proofs.SoundFiles.{has_image, never_long, never_missing, same_file, same_image, some_none}

-- ---- lines

module _ (host : Outside) (known : IsSome host.files) (name : List ℕ) (ids : Ids) (limit : ℕ) (lines : List Line) (has : HasLines ids limit host name lines) where
  has_text : (refusal : Refusal) → LacksText host name refusal → ⊥
  has_text (NoFile word) lacks = never_missing name host.files has.text known has.has.has lacks.0
  has_text (BadScript n why) lacks = never_long host.files name _ has.text known has.has.has has.has.short lacks.0
  has_text BadSpec lacks = lacks
  has_text (BadFile at why) lacks = lacks
  has_text NoLog lacks = lacks
  has_text NoItems lacks = lacks
  has_text NoMirror lacks = lacks
  has_text (BadArea label damage) lacks = lacks
  has_text (Unfit label) lacks = lacks

  each_fine : (n : ℕ) (why : LineWhy) → HasBadLine ids limit host name n why → ⊥
  each_fine n why bad =
      let same = same_file name host.files bad.text has.text known bad.has.has has.has.has in
      (one_script (item_forms (ids_end ids)) limit has.text _ has.is).1 n why (subst (λ (t : List ℕ). IsBadLine (item_forms (ids_end ids)) limit t n why) same bad.is)

  has_lines : (refusal : Refusal) → LacksLines ids limit host name refusal → ⊥
  has_lines refusal (inl lacks) = has_text refusal lacks
  has_lines refusal (inr (n, why, is, bad)) = each_fine n why bad

-- ---- areas of one image

head_of : Area → List Area → Area
head_of none [] = none
head_of none (area ∷ areas) = area

-- they differ in the unused room of their labels alone
same_area : (image : Plain) (area other : Area) → HasAreas image (area ∷ []) → HasAreas image (other ∷ []) → plain_area area ≡ plain_area other
unfolding head_of
same_area image area other one two = ap (head_of area) (one.are ∙ sym two.are)

same_damage : (image : Plain) (area other : Area) → plain_area area ≡ plain_area other → damage_in image area ≡ damage_in image other
same_damage image area other same = ap (damage_in image) same

same_lines : (area other : Area) → plain_area area ≡ plain_area other → (host : Outside) (script : List ℕ) (refusal : Refusal)
    → LacksLines (ids_of other.role) (value_limit other) host script refusal → LacksLines (ids_of area.role) (value_limit area) host script refusal
same_lines area other same host script refusal lacks =
    subst (λ (a : Area). LacksLines (ids_of a.role) (value_limit a) host script refusal) (sym same) lacks

-- ---- jobs

module _ (name script : List ℕ) (host : Outside) (old new : Device) (sound : IsSoundItems name script host) where
  same : (other : Plain) → HasImage host name other → other ≡ sound.image
  same other has = same_image host sound.known name sound.image other sound.opens.has has

  has_items : (refusal : Refusal) → LacksItems host name refusal → ⊥
  has_items refusal lacks =
      lacks.finds.1 (plain_area sound.area)
      (subst (λ (i : Plain). IsItemArea i.areas (plain_area sound.area)) (sym (same lacks.image lacks.has))
      (record { only = sym sound.opens.area_is.are; role = sound.opens.role }))

  area_of : (image : Plain) (area : Area) → HasImage host name image → HasAreas image (area ∷ []) → plain_area sound.area ≡ plain_area area
  area_of image area has is =
      same_area sound.image sound.area area sound.opens.area_is (subst (λ (i : Plain). HasAreas i (area ∷ [])) (same image has) is)

  lined : (refusal : Refusal) → LacksItemLines name script host refusal → ⊥
  lined refusal lacks =
      has_lines host sound.known script (ids_of sound.area.role) (value_limit sound.area) sound.lines sound.reads refusal
      (same_lines sound.area lacks.area (area_of lacks.image lacks.area lacks.opens.has lacks.opens.area_is) host script refusal lacks.lacks)

  whole : (refusal : Refusal) → FindsItemDamage name script host old new refusal → ⊥
  whole refusal finds =
      let opens = finds.sets.opens in
      let shows = subst (λ (i : Plain). damage_in i finds.area ≡ Some finds.damage) (same finds.image opens.has) finds.shows in
      some_none (damage_in sound.image sound.area) finds.damage
      (same_damage sound.image sound.area finds.area (area_of finds.image finds.area opens.has opens.area_is) ∙ shows) sound.undamaged

  pub items_are_not_refused : (refusal : Refusal) → RefusesItems name script host old new refusal → ⊥
  items_are_not_refused refusal (inl (lacks, _)) = has_image host sound.known name sound.image refusal sound.opens.has lacks
  items_are_not_refused refusal (inr (inl (lacks, _))) = has_items refusal lacks
  items_are_not_refused refusal (inr (inr (inl (lacks, _)))) = lined refusal lacks
  items_are_not_refused refusal (inr (inr (inr finds))) = whole refusal finds
