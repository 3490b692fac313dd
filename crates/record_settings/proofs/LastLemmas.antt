-- What a scan finds of a name is what the settings have.
use Rattle.std.proofs.Common.{◌≡◌, ℕ, Bool, true, false, cond, ◌==◌, List, [], ◌∷◌, ◌++◌, length, Option, Some, None, bytes_eq, nat_cmp, refl, sym, ap, ◌∙◌, inl, inr}
use Rattle.std.specs.Prelude.{fold}
use Rattle.std.specs.List.{last_or, cons_option}
use Rattle.std.specs.Ordering.{eq_by_cmp}
use Rattle.std.specs.Cmp.Lexicographic.{slice_cmp}
use Rattle.std.specs.FinMap as map
use Rattle.std.proofs.lemmas.Bool.{cases_Bool}
use Rattle.std.proofs.lemmas.Cmp.{nat_list_cmp_total, nat_list_eq_equiv}
use Rattle.std.proofs.lemmas.List.Folds.{fold_along}
use Rattle.std.proofs.lemmas.List.Sums.{fold_push}
use Rattle.std.proofs.lemmas.Map.Lookups.{exact_bytes}
use Rattle.std.proofs.lemmas.Map.Text.{is_eq-slice_cmp}
use Rattle.backend_api.specs.Map.{Map}
use Rattle.record_settings.specs.Settings.{setting_of, with_setting, settings_of}
use Rattle.record_settings.specs.Last.{values_for, last_value, stored}
use Rattle.record_settings.specs.Live.{value_for}

-- ---- a scan of the records

-- what is found of a name after one more record
abbrev pub found_by : List ℕ → Option (List ℕ) → Option (List ℕ × List ℕ) → Option (List ℕ)
found_by name found None = found
found_by name found (Some (other, value)) = cond (bytes_eq other name) (Some value) found

-- and after all of them
abbrev pub found_from : ℕ → List ℕ → Option (List ℕ) → List (List ℕ) → Option (List ℕ)
found_from limit name found bodies = fold (λ now body. found_by name now (setting_of limit body)) found bodies

last-next : (name : List ℕ) (found : Option (List ℕ)) (setting : Option (List ℕ × List ℕ)) (values : List (List ℕ)) → last_or found (cons_option (value_for name setting) values) ≡ last_or (found_by name found setting) values
last-next name found None values = refl
last-next name found (Some (other, value)) values = at (bytes_eq other name)
  where
    at : (t : Bool) → last_or found (cons_option (cond t (Some value) None) values) ≡ last_or (cond t (Some value) found) values
    at true = refl
    at false = refl

last-scan : (limit : ℕ) (name : List ℕ) (found : Option (List ℕ)) (bodies : List (List ℕ)) → last_or found (values_for limit name bodies) ≡ found_from limit name found bodies
last-scan limit name found [] = refl
last-scan limit name found (body ∷ rest) = last-next name found (setting_of limit body) (values_for limit name rest) ∙ last-scan limit name (found_by name found (setting_of limit body)) rest

-- the last value is what a scan finds
pub last_value-scan : (limit : ℕ) (name : List ℕ) (bodies : List (List ℕ)) → last_value limit name bodies ≡ found_from limit name None bodies
unfolding last_value
last_value-scan limit name bodies = last-scan limit name None bodies

-- ---- what the settings have

-- two texts tie where they are equal
pub tie : (x y : List ℕ) → eq_by_cmp (slice_cmp nat_cmp) x y ≡ bytes_eq y x
tie x y = is_eq-slice_cmp x y ∙ nat_list_eq_equiv.symm x y

pub get-with : (settings : Map) (name other value : List ℕ) → map.get (with_setting settings (Some (other, value))) name ≡ cond (bytes_eq other name) (stored (Some value)) (map.get settings name)
get-with settings name other value =
    elim (cases_Bool (length value == 0)) [
      | inl gone ↦
          ap (λ (t : Bool). map.get (cond t (map.remove settings other) (map.insert settings other value)) name) gone
          ∙ map.get-remove nat_list_cmp_total settings other name
          ∙ ap (λ (t : Bool). cond t None (map.get settings name)) (tie name other)
          ∙ sym (ap (λ (t : Bool). cond (bytes_eq other name) (cond t None (Some value)) (map.get settings name)) gone)
      | inr bytes ↦
          ap (λ (t : Bool). map.get (cond t (map.remove settings other) (map.insert settings other value)) name) bytes
          ∙ map.get-insert nat_list_cmp_total settings other value name
          ∙ ap (λ (t : Bool). cond t (Some value) (map.get settings name)) (tie name other)
          ∙ sym (ap (λ (t : Bool). cond (bytes_eq other name) (cond t None (Some value)) (map.get settings name)) bytes)
    ]

stored-cond : (t : Bool) (value : List ℕ) (found : Option (List ℕ)) → stored (cond t (Some value) found) ≡ cond t (stored (Some value)) (stored found)
stored-cond true value found = refl
stored-cond false value found = refl

-- one setting more keeps what is found and what the map has together
pub get-found : (settings : Map) (name : List ℕ) (found : Option (List ℕ)) (setting : Option (List ℕ × List ℕ)) → map.get settings name ≡ stored found
    → map.get (with_setting settings setting) name ≡ stored (found_by name found setting)
get-found settings name found None same = same
get-found settings name found (Some (other, value)) same =
    get-with settings name other value ∙ ap (λ (o : Option (List ℕ)). cond (bytes_eq other name) (stored (Some value)) o) same ∙ sym (stored-cond (bytes_eq other name) value found)

-- What is found of a name in all records is what the settings have for it.
pub get-settings_of : (limit : ℕ) (bodies : List (List ℕ)) (name : List ℕ) → map.get (settings_of limit bodies) name ≡ stored (last_value limit name bodies)
unfolding settings_of
get-settings_of limit bodies name =
    fold_along (λ (settings : Map) (body : List ℕ). with_setting settings (setting_of limit body)) (λ (found : Option (List ℕ)) (body : List ℕ). found_by name found (setting_of limit body))
    (λ settings found. map.get settings name ≡ stored found)
    (λ settings found body same. get-found settings name found (setting_of limit body) same)
    map.empty None bodies (map.get-empty (slice_cmp nat_cmp) name)
    ∙ ap stored (sym (last_value-scan limit name bodies))

-- one record more
pub last_value-push : (limit : ℕ) (name : List ℕ) (bodies : List (List ℕ)) (body : List ℕ) → last_value limit name (bodies ++ body ∷ []) ≡ found_by name (last_value limit name bodies) (setting_of limit body)
last_value-push limit name bodies body =
    last_value-scan limit name (bodies ++ body ∷ []) ∙ fold_push (λ found b. found_by name found (setting_of limit b)) None bodies body ∙ ap (λ (found : Option (List ℕ)). found_by name found (setting_of limit body)) (sym (last_value-scan limit name bodies))

-- lists of records in which the same is found of each name give the same settings
pub same_settings : (limit : ℕ) (xs ys : List (List ℕ)) → ((name : List ℕ) → stored (last_value limit name xs) ≡ stored (last_value limit name ys)) → settings_of limit xs ≡ settings_of limit ys
same_settings limit xs ys same =
    map.same_map nat_list_cmp_total exact_bytes (settings_of limit xs) (settings_of limit ys) (λ name. get-settings_of limit xs name ∙ same name ∙ sym (get-settings_of limit ys name))
