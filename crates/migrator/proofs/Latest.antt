-- What is found in the last element of a list in which something is.
use Rattle.std.proofs.Common.{◌≡◌, ℕ, zero, suc, List, [], ◌∷◌, ◌++◌, Option, Some, None, refl, sym, ap, ◌∙◌}
use Rattle.std.specs.Prelude.{map}
use Rattle.std.specs.List.{slice_get, filter_map, cons_option}
use Rattle.std.specs.Option.{option_or, option_map}
use Rattle.std.proofs.lemmas.Option.{none-some}
use Rattle.migrator.specs.Active.{last, latest}

or-assoc : {Y : Type 0} (a b c : Option Y) → option_or (option_or a b) c ≡ option_or a (option_or b c)
or-assoc None b c = refl
or-assoc (Some y) b c = refl

pub or-none : {Y : Type 0} (a : Option Y) → option_or a None ≡ a
or-none None = refl
or-none (Some y) = refl

module _ {X Y : Type 0} (found : X → Option Y) where
  pub latest-nil : latest found [] ≡ None
  unfolding latest
  latest-nil = refl

  pub latest-cons : (x : X) (list : List X) → latest found (x ∷ list) ≡ option_or (latest found list) (found x)
  unfolding latest
  latest-cons x list = by (found x) where
    by : (o : Option Y) → last (cons_option o (filter_map found list)) ≡ option_or (last (filter_map found list)) o
    by None = sym (or-none (last (filter_map found list)))
    by (Some y) = refl

  pub latest-append : (xs ys : List X) → latest found (xs ++ ys) ≡ option_or (latest found ys) (latest found xs)
  latest-append [] ys = sym (or-none (latest found ys)) ∙ ap (λ (o : Option Y). option_or (latest found ys) o) (sym latest-nil)
  latest-append (x ∷ xs) ys =
      latest-cons x (xs ++ ys)
      ∙ ap (λ (o : Option Y). option_or o (found x)) (latest-append xs ys)
      ∙ or-assoc (latest found ys) (latest found xs) (found x)
      ∙ ap (λ (o : Option Y). option_or (latest found ys) o) (sym (latest-cons x xs))

  pub latest-one : (x : X) → latest found (x ∷ []) ≡ found x
  latest-one x = latest-cons x [] ∙ ap (λ (o : Option Y). option_or o (found x)) latest-nil

  pub latest-push : (xs : List X) (x : X) → latest found (xs ++ x ∷ []) ≡ option_or (found x) (latest found xs)
  latest-push xs x = latest-append xs (x ∷ []) ∙ ap (λ (o : Option Y). option_or o (latest found xs)) (latest-one x)

  -- where something is found, it is in an element
  pub record IsFound (list : List X) (y : Y) : Type 0 where
    pub place : ℕ
    pub element : X
    pub there : slice_get list place ≡ Some element
    pub is : found element ≡ Some y

  pub latest-found : (list : List X) (y : Y) → latest found list ≡ Some y → IsFound list y
  latest-found [] y is = absurd (none-some y (sym latest-nil ∙ is))
  latest-found (x ∷ list) y is = at (latest-found list y) (latest found list) refl (sym (latest-cons x list) ∙ is)
    where
      at : (latest found list ≡ Some y → IsFound list y) → (o : Option Y) → latest found list ≡ o → option_or o (found x) ≡ Some y → IsFound (x ∷ list) y
      at later None none here = record { place = zero; element = x; there = refl; is = here }
      at later (Some z) some here = let rest = later (some ∙ here) in record { place = suc rest.place; element = rest.element; there = rest.there; is = rest.is }

map-or : {Y Z : Type 0} (k : Y → Z) (a b : Option Y) → option_map k (option_or a b) ≡ option_or (option_map k a) (option_map k b)
map-or k None b = refl
map-or k (Some y) b = refl

-- what is found in the images of the elements
pub latest-map : {X Y V Z : Type 0} (found : X → Option Y) (f : X → V) (other : V → Option Z) (k : Y → Z) → ((x : X) → other (f x) ≡ option_map k (found x)) → (list : List X) → latest other (map f list) ≡ option_map k (latest found list)
latest-map {Y = Y} {Z = Z} found f other k same [] = latest-nil other ∙ ap (λ (o : Option Y). option_map k o) (sym (latest-nil found))
latest-map {Y = Y} {Z = Z} found f other k same (x ∷ list) =
    latest-cons other (f x) (map f list)
    ∙ ap (λ (o : Option Z). option_or o (other (f x))) (latest-map found f other k same list)
    ∙ ap (λ (o : Option Z). option_or (option_map k (latest found list)) o) (same x)
    ∙ sym (map-or k (latest found list) (found x))
    ∙ ap (λ (o : Option Y). option_map k o) (sym (latest-cons found x list))
