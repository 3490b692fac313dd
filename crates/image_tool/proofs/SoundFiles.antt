-- What a host that reports its files gives of an image.
use Rattle.std.proofs.Common.{◌≡◌, ◌≤◌, ◌<◌, ℕ, List, length, arith, Option, Some, None, inl, inr, sym, subst, ◌∙◌}
use Rattle.std.specs.Prelude.{IsSome, IfSome}
use Rattle.std.specs.Option.{IsSomeAnd}
use Rattle.zs_host.specs.Outside.{Outside, Files}
use Rattle.image_file.specs.Format.{Plain}
use Rattle.image_file.specs.Reading.{IsImageFile}
use Rattle.image_file.specs.Table.{FirstFault, rows}
use Rattle.image_file.specs.declared.image.ImageWhy.{ImageWhy}
use Rattle.image_file.proofs.SaidLemmas.{not_both, one_image}
use Rattle.image_jobs.specs.declared.stops.Refusal.{Refusal}
use Rattle.image_jobs.specs.declared.stops.Refusal.TheVariants.{BadSpec, NoFile, BadFile, NoLog, NoItems, NoMirror, BadArea, Unfit, BadScript}
use Rattle.image_jobs.specs.Reading.{HasBadFile, HasImage, LacksImage}

pub some_none : {X : Type 0} (o : Option X) (x : X) → o ≡ Some x → o ≡ None → ⊥
some_none o x is isnt = cc

unreported : IsSome {T = Files} None → ⊥
unreported known = cc

-- ---- files that the host reports

module _ (name : List ℕ) where
  pub same_file : (report_text : Option Files) (a b : List ℕ) → IsSome report_text → IfSome report_text (λ files. files name ≡ Some a) → IfSome report_text (λ files. files name ≡ Some b) → a ≡ b
  same_file None a b known one other = absurd (unreported known)
  same_file (Some files) a b known one other = let same : Some a ≡ Some b = sym one ∙ other in cc

  pub never_missing : (report_text : Option Files) (a : List ℕ) → IsSome report_text → IfSome report_text (λ files. files name ≡ Some a) → IfSome report_text (λ files. files name ≡ None) → ⊥
  never_missing None a known one other = absurd (unreported known)
  never_missing (Some files) a known one other = some_none (files name) a one other

pub never_long : (report_text : Option Files) (name : List ℕ) (limit : ℕ) (a : List ℕ) → IsSome report_text → IfSome report_text (λ files. files name ≡ Some a) → length a ≤ limit
    → IfSome report_text (λ files. IsSomeAnd (files name) (λ bytes. limit < length bytes)) → ⊥
never_long None name limit a known one short long = absurd (unreported known)
never_long (Some files) name limit a known one short long =
    let longer : limit < length a = subst (λ (o : Option (List ℕ)). IsSomeAnd o (λ bytes. limit < length bytes)) one long in
    absurd (omega (arith, short, longer))

module _ (host : Outside) (known : IsSome host.files) (name : List ℕ) where
  bad_file : (image : Plain) (at : ℕ) (why : ImageWhy) → HasImage host name image → HasBadFile host name at why → ⊥
  bad_file image at why has (inl (text, short, fault)) =
      let same = same_file name host.files text has.text known short.has has.has.has in
      not_both has.text image at why has.is (subst (λ (t : List ℕ). FirstFault t (rows t) at why) same fault)
  bad_file image at why has (inr (long, _, _)) = never_long host.files name _ has.text known has.has.has has.has.short long

  pub has_image : (image : Plain) (refusal : Refusal) → HasImage host name image → LacksImage host name refusal → ⊥
  has_image image (NoFile word) has lacks = never_missing name host.files has.text known has.has.has lacks.0
  has_image image (BadFile at why) has lacks = bad_file image at why has lacks
  has_image image BadSpec has lacks = lacks
  has_image image NoLog has lacks = lacks
  has_image image NoItems has lacks = lacks
  has_image image NoMirror has lacks = lacks
  has_image image (BadArea label damage) has lacks = lacks
  has_image image (Unfit label) has lacks = lacks
  has_image image (BadScript n why) has lacks = lacks

  pub same_image : (image other : Plain) → HasImage host name image → HasImage host name other → other ≡ image
  same_image image other has had =
      let same = same_file name host.files had.text has.text known had.has.has has.has.has in
      one_image has.text other image (subst (λ (t : List ℕ). IsImageFile t other) same had.is) has.is
