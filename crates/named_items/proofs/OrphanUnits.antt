-- How many items are orphans, and what their removal spends.
use Rattle.std.proofs.Common.{◌≡◌, ◌⊎◌, ℕ, zero, suc, ◌+◌, ◌*◌, ◌≤◌, Bool, false, true, cond, List, [], Option, Some, None, Result, Ok, Err, refl, sym, ap, subst, ◌∙◌, inl, inr, arith}
use Rattle.std.specs.Prelude.{is_some}
use Rattle.std.specs.FinMap as map
use Rattle.std.specs.Ordering.{nat_cmp}
use Rattle.std.proofs.Math.Nat.{mul-le-mul_right}
use Rattle.std.proofs.lemmas.Bool.{cases_eq, false≢true}
use Rattle.std.proofs.lemmas.Cmp.{nat_cmp_total}
use Rattle.flash_sim.specs.Device.{Device, counted}
use Rattle.flash_map.specs.Spending.{SpendsAtMost}
use Rattle.flash_map.specs.declared.faults.Damaged.{Damaged}
use Rattle.flash_map.specs.declared.faults.MountFault.{MountFault}
use Rattle.flash_map.specs.declared.faults.MountFault.TheVariants.{Damaged as HasDamage, PowerLost as MountLost, NoMemory}
use Rattle.flash_map.proofs.Plans.{counted_counted}
use Rattle.backend_api.specs.Ends.{MountEnds}
use Rattle.item_laws.specs.Items.{Items}
use Rattle.named_items.specs.Numbering.{Numbering}
use Rattle.named_items.specs.Pairs.{IsKept, HasNoOrphans}
use Rattle.named_items.specs.Orphans.{KeepsSettings, StaysKept, OrphansIn, HasOrphans, RemovesSome, MayRemove, Owing, boot_of}
use Rattle.named_items.proofs.CostLemmas.{get-cut_other, get-put}
use Rattle.named_items.proofs.RemovalUnits.{some-items, removes-one}

some-none : (bytes : List ℕ) → Some bytes ≡ None → ⊥
some-none bytes e = cc

-- ---- how many

abbrev empty : Items
empty = map.empty

-- none
pub no-orphans : (n : Numbering) (items : Items) (most : ℕ) → HasNoOrphans n items → HasOrphans n items most
no-orphans n items most clean = record {
  orphans = empty;
  only = λ id. elim (clean id) [ inl none ↦ inl none | inr kept ↦ inr (inl kept) ];
  few = let none : map.len empty ≡ 0 = map.len-empty nat_cmp (List ℕ) in omega arith;
}

-- at most this one
pub one-orphan : (n : Numbering) (items : Items) (id : ℕ) → ((other : ℕ) → ¬ (other ≡ id) → (map.get items other ≡ None) ⊎ IsKept n items other) → HasOrphans n items 1
one-orphan n items id others = record {
  orphans = one;
  only = λ other. elim (cases_eq other id) [
    | inl e ↦ inr (inr (λ (none : map.get one other ≡ None). some-none [] (sym (get-put empty id []) ∙ ap (map.get one) (sym e) ∙ none)))
    | inr apart ↦ elim (others other apart) [ inl none ↦ inl none | inr kept ↦ inr (inl kept) ]
  ];
  few =
      let is = map.len-insert nat_cmp_total empty id [] in
      let absent : map.contains_key empty id ≡ false = ap is_some (map.get-empty nat_cmp id) in
      let none : map.len empty ≡ 0 = map.len-empty nat_cmp (List ℕ) in
      let few : map.len one ≡ map.len empty + 1 = is ∙ ap (λ b. cond b (map.len empty) (map.len empty + 1)) absent in
      omega arith;
}
  where
    one : Items
    one = map.insert empty id []

-- where at most none is, none is
pub none-left : (n : Numbering) (items orphans : Items) → OrphansIn n items orphans → map.len orphans ≡ 0 → HasNoOrphans n items
none-left n items orphans only none id =
    elim (only id) [
      | inl absent ↦ inl absent
      | inr more ↦ elim more [
        | inl kept ↦ inr kept
        | inr is ↦ absurd (is (ap (λ (m : Items). map.get m id) (map.empty_of_len orphans none) ∙ map.get-empty nat_cmp id))
      ]
    ]

-- ---- what was only removed

module _ (n : Numbering) where
  pub orphans-stay : (before after orphans : Items) → KeepsSettings n before after → OrphansIn n before orphans → OrphansIn n after orphans
  orphans-stay before after orphans keeps only id =
      elim (keeps.gone id) [
        | inl none ↦ inl none
        | inr same ↦ elim (only id) [
          | inl none ↦ inl (same ∙ none)
          | inr more ↦ elim more [
            | inl kept ↦ inr (inl (keeps.still id kept))
            | inr is ↦ inr (inr is)
          ]
        ]
      ]

  -- a mount leaves no other orphans, whatever its answer
  pub mount-leaves : {T : Type 0} (items : Device → Items) (damage_now : Option Damaged) (d e : Device) (r : Result T MountFault) → MountEnds damage_now d e r → (damage_now ≡ None → KeepsSettings n (items d) (items e))
      → (orphans : Items) → OrphansIn n (items d) orphans → OrphansIn n (items e) orphans
  mount-leaves items damage_now d e (Ok x) ends keeps orphans only = orphans-stay (items d) (items e) orphans (keeps ends) only
  mount-leaves items damage_now d e (Err (HasDamage damaged)) ends keeps orphans only = subst (λ (x : Device). OrphansIn n (items x) orphans) (sym ends.1) only
  mount-leaves items damage_now d e (Err MountLost) ends keeps orphans only = orphans-stay (items d) (items e) orphans (keeps ends) only
  mount-leaves items damage_now d e (Err NoMemory) ends keeps orphans only = subst (λ (x : Device). OrphansIn n (items x) orphans) (sym ends) only

-- ---- the removal of one

step : (a b : ℕ) → (a + 1) * b ≡ a * b + b
step a b = grind arith

-- One id was looked at: an item that is kept stays, and without an item nothing is programmed.
module _ (n : Numbering) (first any : ℕ) (a b e : Device) (now after orphans : Items) (id : ℕ) (so_far : MayRemove n first any a b now orphans) (starts : b ≡ a → OrphansIn n now orphans)
    (idle : IsKept n now id → e ≡ b) (absent : map.get now id ≡ None → e ≡ b) (one : SpendsAtMost b e any) (next : b ≡ a → SpendsAtMost b e first) where
  -- where nothing is to be removed, all stays
  stays : e ≡ b → (e ≡ b → after ≡ now) → MayRemove n first any a e after orphans
  stays same items =
      elim so_far [
        | inl start ↦ inl (same ∙ start)
        | inr some ↦ inr (record {
          left = some.left;
          only = subst (λ (m : Items). OrphansIn n m some.left) (sym (items same)) some.only;
          units = some.units;
          at_most = some.at_most;
          spent = ap (λ (x : Device). x.spent) same ∙ some.spent;
        })
      ]

  module _ (same_items : e ≡ b → after ≡ now) (done : (map.get after id ≡ None) ⊎ IsKept n after id) (others : (other : ℕ) → ¬ (other ≡ id) → map.get after other ≡ map.get now other) (still : StaysKept n now after) where
    -- the id is none of those that are left
    left-in : (left : Items) → OrphansIn n now left → OrphansIn n after (map.remove left id)
    left-in left only other =
        elim (cases_eq other id) [
          | inl e ↦ subst (λ (k : ℕ). (map.get after k ≡ None) ⊎ IsKept n after k ⊎ ¬ (map.get (map.remove left id) k ≡ None)) (sym e) (elim done [ inl none ↦ inl none | inr kept ↦ inr (inl kept) ])
          | inr apart ↦ elim (only other) [
            | inl none ↦ inl (others other apart ∙ none)
            | inr more ↦ elim more [
              | inl kept ↦ inr (inl (still other kept))
              | inr was ↦ inr (inr (λ (none : map.get (map.remove left id) other ≡ None). was (sym (get-cut_other left id other apart) ∙ none)))
            ]
          ]
        ]

    -- the first one
    begins : b ≡ a → ¬ (map.get orphans id ≡ None) → MayRemove n first any a e after orphans
    begins start is =
        let fewer : map.len (map.remove orphans id) + 1 ≡ map.len orphans = removes-one orphans id is in
        let products : (map.len (map.remove orphans id) + 1) * any ≡ map.len orphans * any = ap (λ (k : ℕ). k * any) fewer in
        let opened = step (map.len (map.remove orphans id)) any in
        let spent = next start in
        let within : spent.0 ≤ first = spent.1 in
        inr (record {
          left = map.remove orphans id;
          only = left-in orphans (starts start);
          units = spent.0;
          at_most = omega arith;
          spent = spent.2 ∙ ap (λ (x : Device). counted x.spent spent.0) start;
        })

    -- each other one
    goes-on : (some : RemovesSome n first any a b now orphans) → ¬ (map.get some.left id ≡ None) → MayRemove n first any a e after orphans
    goes-on some is =
        let fewer : map.len (map.remove some.left id) + 1 ≡ map.len some.left = removes-one some.left id is in
        let products : (map.len (map.remove some.left id) + 1) * any ≡ map.len some.left * any = ap (λ (k : ℕ). k * any) fewer in
        let opened = step (map.len (map.remove some.left id)) any in
        let before = some.at_most in
        let within : one.0 ≤ any = one.1 in
        inr (record {
          left = map.remove some.left id;
          only = left-in some.left some.only;
          units = some.units + one.0;
          at_most = omega arith;
          spent = one.2 ∙ ap (λ (k : ℕ). counted k one.0) some.spent ∙ counted_counted a.spent some.units one.0;
        })

    pub removes-next : MayRemove n first any a e after orphans
    removes-next =
        elim so_far [
          | inl start ↦ elim (starts start id) [
            | inl none ↦ stays (absent none) same_items
            | inr more ↦ elim more [
              | inl kept ↦ stays (idle kept) same_items
              | inr is ↦ begins start is
            ]
          ]
          | inr some ↦ elim (some.only id) [
            | inl none ↦ stays (absent none) same_items
            | inr more ↦ elim more [
              | inl kept ↦ stays (idle kept) same_items
              | inr is ↦ goes-on some is
            ]
          ]
        ]

  -- ---- the last one, which was cut

  -- what some spent, for one more than `more`
  within-all : (units left most more : ℕ) → units + left * any + any ≤ most * any + first → most ≤ more + 1 → units + left * any ≤ first + more * any
  within-all units left most more spent few =
      let le : most * any ≤ (more + 1) * any = mul-le-mul_right any few in
      let opened = step more any in
      omega arith

  spent-so_far : (some : RemovesSome n first any a b now orphans) → e ≡ b → (more : ℕ) → map.len orphans ≤ more + 1 → SpendsAtMost a e (first + more * any)
  spent-so_far some same more few =
      let all = within-all some.units (map.len some.left) (map.len orphans) more some.at_most few in
      (some.units, omega arith, ap (λ (x : Device). x.spent) same ∙ some.spent)

  none-spent : e ≡ a → (most : ℕ) → SpendsAtMost a e most
  none-spent same most = (0, omega arith, ap (λ (x : Device). x.spent) same ∙ none a.spent)
    where
      none : (k : ℕ) → k ≡ counted k 0
      none k = omega arith

  pub orphans-cut : (more : ℕ) → map.len orphans ≤ more + 1 → SpendsAtMost a e (first + more * any)
  orphans-cut more few =
      elim so_far [
        | inl start ↦
            let spent = next start in
            let within : spent.0 ≤ first = spent.1 in
            (spent.0, omega arith, spent.2 ∙ ap (λ (x : Device). counted x.spent spent.0) start)
        | inr some ↦ elim (some.only id) [
          | inl none ↦ spent-so_far some (absent none) more few
          | inr others ↦ elim others [
            | inl kept ↦ spent-so_far some (idle kept) more few
            | inr is ↦
                let all = within-all some.units (map.len some.left) (map.len orphans) more some.at_most few in
                let least : 1 * any ≤ map.len some.left * any = mul-le-mul_right any (some-items some.left id is) in
                let within : one.0 ≤ any = one.1 in
                (some.units + one.0, omega arith, one.2 ∙ ap (λ (k : ℕ). counted k one.0) some.spent ∙ counted_counted a.spent some.units one.0)
          ]
        ]
      ]

-- all of them
pub orphans-whole : (n : Numbering) (first any : ℕ) (a b : Device) (now orphans : Items) → MayRemove n first any a b now orphans → (more : ℕ) → map.len orphans ≤ more + 1 → SpendsAtMost a b (first + more * any)
orphans-whole n first any a b now orphans so_far more few =
    elim so_far [
      | inl same ↦ (0, omega arith, ap (λ (x : Device). x.spent) same ∙ none a.spent)
      | inr some ↦
          let le : map.len orphans * any ≤ (more + 1) * any = mul-le-mul_right any few in
          let opened = step more any in
          let all = some.at_most in
          (some.units, omega arith, some.spent)
    ]
  where
    none : (k : ℕ) → k ≡ counted k 0
    none k = omega arith

-- ---- behind a mount of the store

spends-then : (one two : ℕ) (d e f : Device) → SpendsAtMost d e one → SpendsAtMost e f two → SpendsAtMost d f (one + two)
spends-then one two d e f x y =
    let first : x.0 ≤ one = x.1 in
    let second : y.0 ≤ two = y.1 in
    (x.0 + y.0, omega arith, y.2 ∙ ap (λ (k : ℕ). counted k y.0) x.2 ∙ counted_counted d.spent x.0 y.0)

spends-fewer : (few most : ℕ) (d e : Device) → few ≤ most → SpendsAtMost d e few → SpendsAtMost d e most
spends-fewer few most d e le x = let within : x.0 ≤ few = x.1 in (x.0, omega arith, x.2)

suc-step : (a b : ℕ) → suc a * b ≡ a * b + b
suc-step a b = grind arith

module _ (redo clear entry removal : ℕ) (lean : redo + entry ≤ clear + removal) where
  -- the more orphans, the more
  pub boot-more : (few most : ℕ) → few ≤ most → boot_of redo clear removal few ≤ boot_of redo clear removal most
  boot-more zero zero le = omega arith
  boot-more zero (suc m) le = let opened = suc-step m removal in omega arith
  boot-more (suc k) zero le = absurd (omega arith)
  boot-more (suc k) (suc m) le = let all : suc k * removal ≤ suc m * removal = mul-le-mul_right removal le in omega arith

  -- a mount of the store that failed
  pub boot-alone : (d e : Device) (orphans : ℕ) → SpendsAtMost d e redo → SpendsAtMost d e (boot_of redo clear removal orphans)
  boot-alone d e orphans spent = spends-fewer redo (boot_of redo clear removal orphans) d e (boot-more 0 orphans (omega arith)) spent

  -- with at least one orphan
  some-removed : (roomy : Bool) (d e f : Device) (more : ℕ) → SpendsAtMost d e redo → SpendsAtMost d e clear ⊎ (roomy ≡ true) → SpendsAtMost e f (cond roomy entry removal + more * removal) → SpendsAtMost d f (clear + suc more * removal)
  some-removed true d e f more one ends rest =
      let opened = suc-step more removal in
      spends-fewer (redo + (entry + more * removal)) (clear + suc more * removal) d f (omega arith) (spends-then redo (entry + more * removal) d e f one rest)
  some-removed false d e f more one ends rest =
      let opened = suc-step more removal in
      elim ends [
        | inl short ↦ spends-fewer (clear + (removal + more * removal)) (clear + suc more * removal) d f (omega arith) (spends-then clear (removal + more * removal) d e f short rest)
        | inr roomy ↦ absurd (false≢true roomy)
      ]

  -- one that went on to the orphans
  pub boot-then : (roomy : Bool) (d e f : Device) (orphans : ℕ) → SpendsAtMost d e redo → SpendsAtMost d e clear ⊎ (roomy ≡ true) → (orphans ≡ 0 → f ≡ e) → ((more : ℕ) → orphans ≤ more + 1 → SpendsAtMost e f (cond roomy entry removal + more * removal)) → SpendsAtMost d f (boot_of redo clear removal orphans)
  boot-then roomy d e f zero one ends none rest = subst (λ (x : Device). SpendsAtMost d x redo) (sym (none refl)) one
  boot-then roomy d e f (suc more) one ends none rest = some-removed roomy d e f more one ends (rest more (omega arith))

-- ---- what an area owes

pub owing-more : (n : Numbering) (items : Items) (boot : ℕ → ℕ) (few most : ℕ) → few ≤ most → Owing n items boot few → Owing n items boot most
owing-more n items boot few most le owing = let within = owing.within in record { orphans = owing.orphans; only = owing.only; within = omega arith }

-- a mount spends no more
pub owing-spent : (n : Numbering) (items : Items) (boot : ℕ → ℕ) (d e : Device) → ((orphans : Items) → OrphansIn n items orphans → SpendsAtMost d e (boot (map.len orphans))) → (most : ℕ) → Owing n items boot most → SpendsAtMost d e most
owing-spent n items boot d e spends most owing = spends-fewer (boot (map.len owing.orphans)) most d e owing.within (spends owing.orphans owing.only)

-- and leaves no more
pub owing-left : (n : Numbering) (before after : Items) (boot : ℕ → ℕ) → ((orphans : Items) → OrphansIn n before orphans → OrphansIn n after orphans) → (most : ℕ) → Owing n before boot most → Owing n after boot most
owing-left n before after boot stay most owing = record { orphans = owing.orphans; only = stay owing.orphans owing.only; within = owing.within }

-- a command that was cut leaves at most one orphan
pub cut-owing : (n : Numbering) (items : Items) (redo clear entry removal : ℕ) → redo + entry ≤ clear + removal → HasOrphans n items 1 → Owing n items (boot_of redo clear removal) (clear + removal)
cut-owing n items redo clear entry removal lean has =
    let all = boot-more redo clear entry removal lean (map.len has.orphans) 1 has.few in
    let once : 1 * removal ≡ removal = omega arith in
    record { orphans = has.orphans; only = has.only; within = omega arith }
