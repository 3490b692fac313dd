-- A transcript has one reading.
use Rattle.std.proofs.Common.{◌≡◌, ◌⊎◌, inl, inr, ℕ, ◌||◌, ◌^◌, ◌<◌, Bool, true, false, cond, Option, Some, None, Result, Ok, Err, List, [], ◌∷◌, ◌++◌, length, map, codes, append_assoc, length-append, refl, sym, ◌∙◌, ap, subst, arith}
use Rattle.std.specs.List.{All, list_all}
use Rattle.std.specs.Str.{bytes_eq}
use Rattle.std.specs.Str.Parse.{digits_value}
use Rattle.std.specs.Fmt.{decimal}
use Rattle.std.proofs.lemmas.Bool.{and_parts}
use Rattle.std.proofs.lemmas.Fmt.{decimal_is_IsNumeral}
use Rattle.std.proofs.lemmas.List.Elements.{All-nil, All-cons, All-head, All-tail, All-append}
use Rattle.hex.specs.Hex.{encode_lower, decode_of, IsBytes}
use Rattle.hex.specs.declared.error.FromHexError.{FromHexError}
use Rattle.hex.proofs.HexLemmas.{decode_of-encode_lower}
use Rattle.serde_json.specs.Written.{compact_text}
use Rattle.script_lines.specs.declared.lists.Pair.{Pair}
use Rattle.script_lines.specs.declared.lists.Give.{Give}
use Rattle.script_lines.specs.declared.answer.Answer.{Answer}
use Rattle.script_lines.specs.declared.answer.SaveEnd.TheVariants as ends
use Rattle.script_lines.specs.declared.answer.Answer.TheVariants.{Done, Value, Absent, Lost, Off, NoSpace, TooMany, Exists, NoKind, NoTarget, Rejected, NoHandler, Loaded, Direct, Saved, Names}
use Rattle.script_lines.specs.Answer.{lines_text, text_of, lines_of, give_line, have_line, taken_word, dashed, one, names_object}
use Rattle.script_lines.specs.Transcript.{transcript, IsWord, IsReportedPair, IsReportedGive, IsReported, OneListOfLines, shown_rest, shown_give, shown, OneTranscript}
use Rattle.script_lines.proofs.TextLemmas.{lines_text-append}
use Rattle.script_lines.proofs.Tokens.{IsTextLine, one_list}
use Rattle.script_lines.proofs.WordTexts.{literal, decimal_word, hex_word, name_word, dashed_word}
use Rattle.script_lines.proofs.JsonNames.{same_object, object_word}

abbrev Words : Type 0
Words = List (List ℕ)

-- Each line of an answer is words.

record AreWords (words : Words) : Type 0 where
  all : All IsWord words

nil : AreWords []
nil = record { all = All-nil IsWord }

more : (word : List ℕ) (words : Words) → IsWord word → AreWords words → AreWords (word ∷ words)
more word words is are = record { all = All-cons IsWord word words is are.all }

line : (word : List ℕ) (words : Words) → IsWord word → AreWords words → IsTextLine (word ∷ words)
line word words is are = record { some = omega arith; words = All-cons IsWord word words is are.all }

only : (words : Words) → IsTextLine words → All IsTextLine (words ∷ [])
only words is = All-cons IsTextLine words [] is (All-nil IsTextLine)

each : {A : Type 0} (P : A → Type 0) (f : A → Words) (xs : List A) → ((x : A) → P x → IsTextLine (f x)) → All P xs → All IsTextLine (map f xs)
each P f [] is all = All-nil IsTextLine
each P f (x ∷ xs) is all = All-cons IsTextLine (f x) (map f xs) (is x (All-head P x xs all)) (each P f xs is (All-tail P x xs all))

taken_is_word : (taken : Bool) → IsWord (taken_word taken)
taken_is_word true = literal (codes "taken") refl
taken_is_word false = literal (codes "rejected") refl

give_is_line : (give : Give) → IsReportedGive give → IsTextLine (give_line give)
give_is_line give is =
    line (codes "give") _ (literal (codes "give") refl)
    (more give.subtree _ (name_word give.subtree is.subtree) (more (dashed give.rest) _ (dashed_word give.rest is.rest) (more (encode_lower give.value) _ (hex_word give.value is.value) (more (taken_word give.taken) [] (taken_is_word give.taken) nil))))

have_is_line : (pair : Pair) → IsReportedPair pair → IsTextLine (have_line pair)
have_is_line pair is = line (codes "have") _ (literal (codes "have") refl) (more pair.name _ (name_word pair.name is.name) (more (encode_lower pair.value) [] (hex_word pair.value is.value) nil))

number : (n : ℕ) (words : Words) → n < 2 ^ 64 → AreWords words → AreWords (decimal n ∷ words)
number n words small are = more (decimal n) words (decimal_word n small) are

lines_are : (answer : Answer) → IsReported answer → All IsTextLine (lines_of answer)
lines_are (Done units) spoken = only _ (line (codes "ok") _ (literal (codes "ok") refl) (number units [] spoken nil))
lines_are (Value value) spoken = only _ (line (codes "value") _ (literal (codes "value") refl) (more (encode_lower value) [] (hex_word value spoken) nil))
lines_are Absent spoken = only _ (line (codes "none") [] (literal (codes "none") refl) nil)
lines_are (Lost units false) spoken = only _ (line (codes "lost") _ (literal (codes "lost") refl) (number units [] spoken nil))
lines_are (Lost units true) spoken = only _ (line (codes "lost") _ (literal (codes "lost") refl) (number units _ spoken (more (codes "chance") [] (literal (codes "chance") refl) nil)))
lines_are Off spoken = only _ (line (codes "off") [] (literal (codes "off") refl) nil)
lines_are (NoSpace units need live) spoken = only _ (line (codes "nospace") _ (literal (codes "nospace") refl) (number units [] spoken nil))
lines_are (TooMany units) spoken = only _ (line (codes "toomany") _ (literal (codes "toomany") refl) (number units [] spoken nil))
lines_are Exists spoken = only _ (line (codes "exists") [] (literal (codes "exists") refl) nil)
lines_are NoKind spoken = only _ (line (codes "nokind") [] (literal (codes "nokind") refl) nil)
lines_are NoTarget spoken = only _ (line (codes "notarget") [] (literal (codes "notarget") refl) nil)
lines_are Rejected spoken = only _ (line (codes "rejected") [] (literal (codes "rejected") refl) nil)
lines_are NoHandler spoken = only _ (line (codes "nohandler") [] (literal (codes "nohandler") refl) nil)
lines_are (Loaded gives taken rejected passed) spoken =
    All-append IsTextLine (map give_line gives) _ (each IsReportedGive give_line gives give_is_line spoken.0)
    (only _ (line (codes "loaded") _ (literal (codes "loaded") refl) (number taken _ spoken.1 (number rejected _ spoken.2 (number passed [] spoken.3 nil)))))
lines_are (Direct pairs) spoken =
    All-append IsTextLine (map have_line pairs) _ (each IsReportedPair have_line pairs have_is_line spoken.0)
    (only _ (line (codes "direct") _ (literal (codes "direct") refl) (number (length pairs) [] spoken.1 nil)))
lines_are (Saved pairs units ends.Whole) spoken = only _ (line (codes "saved") _ (literal (codes "saved") refl) (number pairs _ spoken.0 (number units [] spoken.1 nil)))
lines_are (Saved pairs units (ends.NoSpace need live)) spoken = only _ (line (codes "saved") _ (literal (codes "saved") refl) (number pairs _ spoken.0 (more (codes "nospace") _ (literal (codes "nospace") refl) (number units [] spoken.1 nil))))
lines_are (Saved pairs units ends.TooMany) spoken = only _ (line (codes "saved") _ (literal (codes "saved") refl) (number pairs _ spoken.0 (more (codes "toomany") _ (literal (codes "toomany") refl) (number units [] spoken.1 nil))))
lines_are (Names active pairs) spoken = only _ (line (compact_text (names_object active pairs)) [] (object_word active pairs spoken.0 spoken.1) nil)

-- The lines of all answers.

abbrev all_lines : List Answer → List Words
all_lines [] = []
all_lines (answer ∷ answers) = lines_of answer ++ all_lines answers

all_text : (answers : List Answer) → transcript answers ≡ lines_text (all_lines answers)
all_text [] = refl
all_text (answer ∷ answers) = ap (λ (text : List ℕ). text_of answer ++ text) (all_text answers) ∙ sym (lines_text-append (lines_of answer) (all_lines answers))

all_are : (answers : List Answer) → All IsReported answers → All IsTextLine (all_lines answers)
all_are [] spoken = All-nil IsTextLine
all_are (answer ∷ answers) spoken = All-append IsTextLine (lines_of answer) (all_lines answers) (lines_are answer (All-head IsReported answer answers spoken)) (all_are answers (All-tail IsReported answer answers spoken))

-- An answer is lines that begin with `give` or `have`, and one that does not.

abbrev is_prefix : Words → Bool
is_prefix [] = false
is_prefix (word ∷ words) = bytes_eq word (codes "give") || bytes_eq word (codes "have")

abbrev prefixes_of : Answer → List Words
prefixes_of (Loaded gives taken rejected passed) = map give_line gives
prefixes_of (Direct pairs) = map have_line pairs
prefixes_of _ = []

abbrev last_of : Answer → Words
last_of (Done units) = codes "ok" ∷ decimal units ∷ []
last_of (Value value) = codes "value" ∷ encode_lower value ∷ []
last_of Absent = codes "none" ∷ []
last_of (Lost units false) = codes "lost" ∷ decimal units ∷ []
last_of (Lost units true) = codes "lost" ∷ decimal units ∷ codes "chance" ∷ []
last_of Off = codes "off" ∷ []
last_of (NoSpace units need live) = codes "nospace" ∷ decimal units ∷ []
last_of (TooMany units) = codes "toomany" ∷ decimal units ∷ []
last_of Exists = codes "exists" ∷ []
last_of NoKind = codes "nokind" ∷ []
last_of NoTarget = codes "notarget" ∷ []
last_of Rejected = codes "rejected" ∷ []
last_of NoHandler = codes "nohandler" ∷ []
last_of (Loaded gives taken rejected passed) = codes "loaded" ∷ decimal taken ∷ decimal rejected ∷ decimal passed ∷ []
last_of (Direct pairs) = codes "direct" ∷ decimal (length pairs) ∷ []
last_of (Saved pairs units ends.Whole) = codes "saved" ∷ decimal pairs ∷ decimal units ∷ []
last_of (Saved pairs units (ends.NoSpace need live)) = codes "saved" ∷ decimal pairs ∷ codes "nospace" ∷ decimal units ∷ []
last_of (Saved pairs units ends.TooMany) = codes "saved" ∷ decimal pairs ∷ codes "toomany" ∷ decimal units ∷ []
last_of (Names active pairs) = compact_text (names_object active pairs) ∷ []

record IsCut (answer : Answer) : Type 0 where
  lines : lines_of answer ≡ prefixes_of answer ++ last_of answer ∷ []
  prefixes : list_all is_prefix (prefixes_of answer) ≡ true
  last : is_prefix (last_of answer) ≡ false

gives_prefix : (gives : List Give) → list_all is_prefix (map give_line gives) ≡ true
gives_prefix [] = refl
gives_prefix (give ∷ gives) = gives_prefix gives

haves_prefix : (pairs : List Pair) → list_all is_prefix (map have_line pairs) ≡ true
haves_prefix [] = refl
haves_prefix (pair ∷ pairs) = haves_prefix pairs

cut : (answer : Answer) → IsCut answer
cut (Done units) = record { lines = refl; prefixes = refl; last = refl }
cut (Value value) = record { lines = refl; prefixes = refl; last = refl }
cut Absent = record { lines = refl; prefixes = refl; last = refl }
cut (Lost units false) = record { lines = refl; prefixes = refl; last = refl }
cut (Lost units true) = record { lines = refl; prefixes = refl; last = refl }
cut Off = record { lines = refl; prefixes = refl; last = refl }
cut (NoSpace units need live) = record { lines = refl; prefixes = refl; last = refl }
cut (TooMany units) = record { lines = refl; prefixes = refl; last = refl }
cut Exists = record { lines = refl; prefixes = refl; last = refl }
cut NoKind = record { lines = refl; prefixes = refl; last = refl }
cut NoTarget = record { lines = refl; prefixes = refl; last = refl }
cut Rejected = record { lines = refl; prefixes = refl; last = refl }
cut NoHandler = record { lines = refl; prefixes = refl; last = refl }
cut (Loaded gives taken rejected passed) = record { lines = refl; prefixes = gives_prefix gives; last = refl }
cut (Direct pairs) = record { lines = refl; prefixes = haves_prefix pairs; last = refl }
cut (Saved pairs units ends.Whole) = record { lines = refl; prefixes = refl; last = refl }
cut (Saved pairs units (ends.NoSpace need live)) = record { lines = refl; prefixes = refl; last = refl }
cut (Saved pairs units ends.TooMany) = record { lines = refl; prefixes = refl; last = refl }
cut (Names active pairs) = record { lines = refl; prefixes = refl; last = refl }

contrary : (b : Bool) → b ≡ true → b ≡ false → ⊥
contrary b holds fails = let e = sym holds ∙ fails in cc

heads : (a b : Words) (xs ys : List Words) → a ∷ xs ≡ b ∷ ys → a ≡ b
heads a b xs ys e = cc

tails : (a b : Words) (xs ys : List Words) → a ∷ xs ≡ b ∷ ys → xs ≡ ys
tails a b xs ys e = cc

joined : (a b : Words) (xs ys : List Words) → a ≡ b → xs ≡ ys → a ∷ xs ≡ b ∷ ys
joined a b xs ys first rest = cc

-- lines are cut behind the first that is not in front
group : (fs gs : List Words) (l m : Words) (r s : List Words) → list_all is_prefix fs ≡ true → list_all is_prefix gs ≡ true → is_prefix l ≡ false → is_prefix m ≡ false
    → fs ++ l ∷ r ≡ gs ++ m ∷ s → (fs ≡ gs) × (l ≡ m) × (r ≡ s)
group [] [] l m r s prefix other last end same = (refl, heads l m r s same, tails l m r s same)
group [] (g ∷ gs) l m r s prefix other last end same =
    absurd (contrary (is_prefix g) (and_parts (is_prefix g) (list_all is_prefix gs) other).0 (ap is_prefix (sym (heads l g r (gs ++ m ∷ s) same)) ∙ last))
group (f ∷ fs) [] l m r s prefix other last end same =
    absurd (contrary (is_prefix f) (and_parts (is_prefix f) (list_all is_prefix fs) prefix).0 (ap is_prefix (heads f m (fs ++ l ∷ r) s same) ∙ end))
group (f ∷ fs) (g ∷ gs) l m r s prefix other last end same =
    let rest = group fs gs l m r s (and_parts (is_prefix f) (list_all is_prefix fs) prefix).1 (and_parts (is_prefix g) (list_all is_prefix gs) other).1 last end (tails f g (fs ++ l ∷ r) (gs ++ m ∷ s) same) in
    (joined f g fs gs (heads f g (fs ++ l ∷ r) (gs ++ m ∷ s) same) rest.0, rest.1, rest.2)

with_rest : (answer : Answer) (rest : List Words) → lines_of answer ++ rest ≡ prefixes_of answer ++ last_of answer ∷ rest
with_rest answer rest = ap (λ (lines : List Words). lines ++ rest) (cut answer).lines ∙ append_assoc (prefixes_of answer) (last_of answer ∷ []) rest

group_of : (a b : Answer) (r s : List Words) → lines_of a ++ r ≡ lines_of b ++ s → (prefixes_of a ≡ prefixes_of b) × (last_of a ≡ last_of b) × (r ≡ s)
group_of a b r s same = group (prefixes_of a) (prefixes_of b) (last_of a) (last_of b) r s (cut a).prefixes (cut b).prefixes (cut a).last (cut b).last (sym (with_rest a r) ∙ same ∙ with_rest b s)

no_lines : (answer : Answer) (rest : List Words) → [] ≡ lines_of answer ++ rest → ⊥
no_lines answer rest none =
    let e = ap length (none ∙ with_rest answer rest) in
    omega (arith, e, length-append (prefixes_of answer) (last_of answer ∷ rest))

-- What each answer's lines give, where equal lines give equal values, that of all gives.
by_groups : {A : Type 0} (f : Answer → A) → ((a b : Answer) → IsReported a → IsReported b → prefixes_of a ≡ prefixes_of b → last_of a ≡ last_of b → f a ≡ f b)
    → (some others : List Answer) → All IsReported some → All IsReported others → all_lines some ≡ all_lines others → map f some ≡ map f others
by_groups f same [] [] spoken also lines = refl
by_groups f same [] (b ∷ others) spoken also lines = absurd (no_lines b (all_lines others) lines)
by_groups f same (a ∷ some) [] spoken also lines = absurd (no_lines a (all_lines some) (sym lines))
by_groups f same (a ∷ some) (b ∷ others) spoken also lines =
    let parts = group_of a b (all_lines some) (all_lines others) lines in
    pair (f a) (f b) (map f some) (map f others) (same a b (All-head IsReported a some spoken) (All-head IsReported b others also) parts.0 parts.1)
    (by_groups f same some others (All-tail IsReported a some spoken) (All-tail IsReported b others also) parts.2) where
      pair : {A : Type 0} (x y : A) (xs ys : List A) → x ≡ y → xs ≡ ys → x ∷ xs ≡ y ∷ ys
      pair x y xs ys first rest = cc

same_lines : (a b : Answer) → IsReported a → IsReported b → prefixes_of a ≡ prefixes_of b → last_of a ≡ last_of b → lines_of a ≡ lines_of b
same_lines a b spoken also prefixes last =
    (cut a).lines ∙ ap (λ (lines : List Words). lines ++ last_of a ∷ []) prefixes ∙ ap (λ (words : Words). prefixes_of b ++ words ∷ []) last ∙ sym (cut b).lines

reported_lines : (some others : List Answer) → All IsReported some → All IsReported others → transcript some ≡ transcript others → all_lines some ≡ all_lines others
reported_lines some others spoken also same = one_list (all_lines some) (all_lines others) (all_are some spoken) (all_are others also) (sym (all_text some) ∙ same ∙ all_text others)

pub one_list_of_lines : OneListOfLines
one_list_of_lines some others spoken also same = by_groups lines_of same_lines some others spoken also (reported_lines some others spoken also same)

-- The answer that lines show.

num : List ℕ → ℕ
num word = digits_value 10 word

num_back : (n : ℕ) → n < 2 ^ 64 → num (decimal n) ≡ n
unfolding num
num_back n small = (decimal_is_IsNumeral n small).1

ok_or_none : Result (List ℕ) FromHexError → List ℕ
ok_or_none (Ok bytes) = bytes
ok_or_none (Err e) = []

unhex : List ℕ → List ℕ
unhex word = ok_or_none (decode_of word)

unhex_back : (bytes : List ℕ) → IsBytes bytes → unhex (encode_lower bytes) ≡ bytes
unfolding unhex ok_or_none
unhex_back bytes are = ap ok_or_none (decode_of-encode_lower bytes are)

abbrev give_by : List ℕ → List ℕ → List ℕ → Bool → Give
give_by subtree rest value taken = record { subtree = subtree; rest = rest; value = value; taken = taken }

abbrev give_of : Words → Give
give_of (give ∷ subtree ∷ rest ∷ value ∷ taken ∷ []) = give_by subtree (shown_rest rest) (unhex value) (bytes_eq taken (codes "taken"))
give_of _ = give_by [] [] [] false

rest_back : (rest : List ℕ) → shown_rest (dashed rest) ≡ shown_rest rest
rest_back [] = refl
rest_back (b ∷ rest) = refl

taken_back : (taken : Bool) → bytes_eq (taken_word taken) (codes "taken") ≡ taken
taken_back true = refl
taken_back false = refl

give_back : (give : Give) → IsReportedGive give → give_of (give_line give) ≡ shown_give give
give_back give spoken =
    ap (λ (rest : List ℕ). give_by give.subtree rest (unhex (encode_lower give.value)) (bytes_eq (taken_word give.taken) (codes "taken"))) (rest_back give.rest)
    ∙ ap (λ (value : List ℕ). give_by give.subtree (shown_rest give.rest) value (bytes_eq (taken_word give.taken) (codes "taken"))) (unhex_back give.value spoken.value)
    ∙ ap (λ (taken : Bool). give_by give.subtree (shown_rest give.rest) give.value taken) (taken_back give.taken)

abbrev pair_by : List ℕ → List ℕ → Pair
pair_by name value = record { name = name; value = value }

abbrev pair_of : Words → Pair
pair_of (have ∷ name ∷ value ∷ []) = pair_by name (unhex value)
pair_of _ = pair_by [] []

pair_back : (pair : Pair) → IsReportedPair pair → pair_of (have_line pair) ≡ pair
pair_back pair spoken = ap (λ (value : List ℕ). pair_by pair.name value) (unhex_back pair.value spoken.value)

all_back : {A : Type 0} (P : A → Type 0) (f : A → Words) (g : Words → A) (h : A → A) → ((x : A) → P x → g (f x) ≡ h x) → (xs : List A) → All P xs → map g (map f xs) ≡ map h xs
all_back P f g h back [] all = refl
all_back P f g h back (x ∷ xs) all = pair (g (f x)) (h x) (map g (map f xs)) (map h xs) (back x (All-head P x xs all)) (all_back P f g h back xs (All-tail P x xs all)) where
  pair : {A : Type 0} (x y : A) (xs ys : List A) → x ≡ y → xs ≡ ys → x ∷ xs ≡ y ∷ ys
  pair x y xs ys first rest = cc

same_map : {A : Type 0} (xs : List A) → map (λ x. x) xs ≡ xs
same_map [] = refl
same_map (x ∷ xs) = ap (λ ys. x ∷ ys) (same_map xs)

abbrev one_number : (ℕ → Answer) → Words → Option Answer
one_number make (n ∷ []) = Some (make (num n))
one_number make _ = None

abbrev value_by : Words → Option Answer
value_by (word ∷ []) = Some (Value (unhex word))
value_by _ = None

abbrev lost_by : Words → Option Answer
lost_by (n ∷ []) = Some (Lost (num n) false)
lost_by (n ∷ chance ∷ []) = Some (Lost (num n) true)
lost_by _ = None

abbrev loaded_by : List Words → Words → Option Answer
loaded_by prefixes (t ∷ r ∷ p ∷ []) = Some (Loaded (map give_of prefixes) (num t) (num r) (num p))
loaded_by prefixes _ = None

abbrev saved_by : Words → Option Answer
saved_by (p ∷ u ∷ []) = Some (Saved (num p) (num u) ends.Whole)
saved_by (p ∷ why ∷ u ∷ []) = cond (bytes_eq why (codes "nospace")) (Some (Saved (num p) (num u) (ends.NoSpace 0 0))) (Some (Saved (num p) (num u) ends.TooMany))
saved_by _ = None

answer_of : List Words → Words → Option Answer
answer_of prefixes [] = None
answer_of prefixes (w ∷ ws) =
    cond (bytes_eq w (codes "ok")) (one_number (λ u. Done u) ws)
    (cond (bytes_eq w (codes "value")) (value_by ws)
    (cond (bytes_eq w (codes "none")) (Some Absent)
    (cond (bytes_eq w (codes "lost")) (lost_by ws)
    (cond (bytes_eq w (codes "off")) (Some Off)
    (cond (bytes_eq w (codes "nospace")) (one_number (λ u. NoSpace u 0 0) ws)
    (cond (bytes_eq w (codes "toomany")) (one_number (λ u. TooMany u) ws)
    (cond (bytes_eq w (codes "exists")) (Some Exists)
    (cond (bytes_eq w (codes "nokind")) (Some NoKind)
    (cond (bytes_eq w (codes "notarget")) (Some NoTarget)
    (cond (bytes_eq w (codes "rejected")) (Some Rejected)
    (cond (bytes_eq w (codes "nohandler")) (Some NoHandler)
    (cond (bytes_eq w (codes "loaded")) (loaded_by prefixes ws)
    (cond (bytes_eq w (codes "direct")) (Some (Direct (map pair_of prefixes)))
    (cond (bytes_eq w (codes "saved")) (saved_by ws)
    None))))))))))))))

-- an answer of names, or one that its lines give again
IsShown : Answer → Type 0
IsShown a = ((active : List ℕ) × (pairs : List Pair) × (a ≡ Names active pairs) × (answer_of (prefixes_of a) (last_of a) ≡ None)) ⊎ (answer_of (prefixes_of a) (last_of a) ≡ Some (shown a))

back : (a : Answer) → IsReported a → IsShown a
unfolding answer_of IsShown
back (Done units) spoken = inr (ap (λ (n : ℕ). Some (Done n)) (num_back units spoken))
back (Value value) spoken = inr (ap (λ (bytes : List ℕ). Some (Value bytes)) (unhex_back value spoken))
back Absent spoken = inr refl
back (Lost units false) spoken = inr (ap (λ (n : ℕ). Some (Lost n false)) (num_back units spoken))
back (Lost units true) spoken = inr (ap (λ (n : ℕ). Some (Lost n true)) (num_back units spoken))
back Off spoken = inr refl
back (NoSpace units need live) spoken = inr (ap (λ (n : ℕ). Some (NoSpace n 0 0)) (num_back units spoken))
back (TooMany units) spoken = inr (ap (λ (n : ℕ). Some (TooMany n)) (num_back units spoken))
back Exists spoken = inr refl
back NoKind spoken = inr refl
back NoTarget spoken = inr refl
back Rejected spoken = inr refl
back NoHandler spoken = inr refl
back (Loaded gives taken rejected passed) spoken =
    inr (ap (λ (gs : List Give). Some (Loaded gs (num (decimal taken)) (num (decimal rejected)) (num (decimal passed)))) (all_back IsReportedGive give_line give_of shown_give give_back gives spoken.0)
    ∙ ap (λ (n : ℕ). Some (Loaded (map shown_give gives) n (num (decimal rejected)) (num (decimal passed)))) (num_back taken spoken.1)
    ∙ ap (λ (n : ℕ). Some (Loaded (map shown_give gives) taken n (num (decimal passed)))) (num_back rejected spoken.2)
    ∙ ap (λ (n : ℕ). Some (Loaded (map shown_give gives) taken rejected n)) (num_back passed spoken.3))
back (Direct pairs) spoken = inr (ap (λ (ps : List Pair). Some (Direct ps)) (all_back IsReportedPair have_line pair_of (λ p. p) pair_back pairs spoken.0 ∙ same_map pairs))
back (Saved pairs units ends.Whole) spoken =
    inr (ap (λ (n : ℕ). Some (Saved n (num (decimal units)) ends.Whole)) (num_back pairs spoken.0) ∙ ap (λ (n : ℕ). Some (Saved pairs n ends.Whole)) (num_back units spoken.1))
back (Saved pairs units (ends.NoSpace need live)) spoken =
    inr (ap (λ (n : ℕ). Some (Saved n (num (decimal units)) (ends.NoSpace 0 0))) (num_back pairs spoken.0) ∙ ap (λ (n : ℕ). Some (Saved pairs n (ends.NoSpace 0 0))) (num_back units spoken.1))
back (Saved pairs units ends.TooMany) spoken =
    inr (ap (λ (n : ℕ). Some (Saved n (num (decimal units)) ends.TooMany)) (num_back pairs spoken.0) ∙ ap (λ (n : ℕ). Some (Saved pairs n ends.TooMany)) (num_back units spoken.1))
back (Names active pairs) spoken = inl (active, pairs, refl, refl)

none_some : {A : Type 0} (o : Option A) (x : A) → o ≡ None → o ≡ Some x → ⊥
none_some o x none some = let e = sym none ∙ some in cc

some_same : {A : Type 0} (x y : A) → Some x ≡ Some y → x ≡ y
some_same x y e = cc

first_word : (a b : List ℕ) → a ∷ [] ≡ b ∷ [] → a ≡ b
first_word a b e = cc

names_same : (l m : List ℕ) (ps qs : List Pair) → IsReported (Names l ps) → IsReported (Names m qs) → last_of (Names l ps) ≡ last_of (Names m qs) → Names l ps ≡ Names m qs
names_same l m ps qs spoken also last =
    let parts = same_object l m ps qs spoken.0 also.0 spoken.1 also.1 (first_word (compact_text (names_object l ps)) (compact_text (names_object m qs)) last) in
    ap (λ (n : List ℕ). Names n ps) parts.0 ∙ ap (λ (rs : List Pair). Names m rs) parts.1

by_shown : (a b : Answer) → IsReported a → IsReported b → prefixes_of a ≡ prefixes_of b → last_of a ≡ last_of b → IsShown a → IsShown b → shown a ≡ shown b
unfolding IsShown
by_shown a b spoken also prefixes last (inr one) (inr other) = some_same (shown a) (shown b) (sym one ∙ ap (λ (fs : List Words). answer_of fs (last_of a)) prefixes ∙ ap (answer_of (prefixes_of b)) last ∙ other)
by_shown a b spoken also prefixes last (inl one) (inr other) = absurd (none_some _ (shown b) one.3 (ap (λ (fs : List Words). answer_of fs (last_of a)) prefixes ∙ ap (answer_of (prefixes_of b)) last ∙ other))
by_shown a b spoken also prefixes last (inr one) (inl other) = absurd (none_some _ (shown a) other.3 (sym (ap (λ (fs : List Words). answer_of fs (last_of a)) prefixes ∙ ap (answer_of (prefixes_of b)) last) ∙ one))
by_shown a b spoken also prefixes last (inl one) (inl other) =
    ap shown one.2 ∙ ap shown (names_same one.0 other.0 one.1 other.1 (subst IsReported one.2 spoken) (subst IsReported other.2 also) (sym (ap last_of one.2) ∙ last ∙ ap last_of other.2)) ∙ sym (ap shown other.2)

pub one_transcript : OneTranscript
one_transcript some others spoken also same =
    by_groups shown (λ a b spoken also prefixes last. by_shown a b spoken also prefixes last (back a spoken) (back b also)) some others spoken also (reported_lines some others spoken also same)
