-- Two words that are numbers.
use Rattle.std.proofs.Common.{◌≡◌, ℕ, ◌<◌, Err, List, [], ◌∷◌, refl, sym, subst, inl, inr, arith}
use Rattle.script_lines.specs.declared.why.LineWhy.{LineWhy}
use Rattle.script_lines.specs.declared.why.LineWhy.TheVariants.{Unknown, Words, Name, Kind, Hex, Long, Number}
use Rattle.script_lines.specs.declared.why.LineFault.{LineFault}
use Rattle.script_lines.specs.declared.why.LineFault.TheVariants.{Refused, NoMemory}
use Rattle.script_lines.specs.Forms.{Said, SaysField, SaysAll, HasFault, SomeFault, rank, RefusesFields, ReadsField, ReadsFields}
use Rattle.script_lines.specs.Forms.Field.{below}
use Rattle.script_lines.proofs.FieldLemmas.{late, refuses}

-- a number's cause is the last of all
last_rank : (limit end : ℕ) (word : List ℕ) (why : LineWhy) → HasFault limit (below end) word why → rank why ≡ 6
last_rank limit end word Unknown fault = absurd fault
last_rank limit end word Words fault = absurd fault
last_rank limit end word Name fault = absurd fault
last_rank limit end word Kind fault = absurd fault
last_rank limit end word Hex fault = absurd fault
last_rank limit end word Long fault = absurd fault
last_rank limit end word Number fault = refl

module _ (limit end other : ℕ) (first second : List ℕ) where
  none_before : (earlier : LineWhy) → rank earlier < 6 → SomeFault limit (below end ∷ below other ∷ []) (first ∷ second ∷ []) earlier → ⊥
  none_before earlier less (inl found) = let e = last_rank limit end first earlier found in omega arith
  none_before earlier less (inr (inl found)) = let e = last_rank limit other second earlier found in omega arith
  none_before earlier less (inr (inr found)) = found

  first_refused : (why : LineWhy) → HasFault limit (below end) first why → RefusesFields limit (below end ∷ below other ∷ []) (first ∷ second ∷ []) why
  first_refused why fault =
      let e = last_rank limit end first why fault in
      refuses limit (below end ∷ below other ∷ []) (first ∷ second ∷ []) why (late limit (below end) first why fault) refl
      (record { here = inl fault; none_before = λ earlier less found. none_before earlier (omega arith) found })

  second_refused : (why : LineWhy) → HasFault limit (below other) second why → RefusesFields limit (below end ∷ below other ∷ []) (first ∷ second ∷ []) why
  second_refused why fault =
      let e = last_rank limit other second why fault in
      refuses limit (below end ∷ below other ∷ []) (first ∷ second ∷ []) why (late limit (below other) second why fault) refl
      (record { here = inr (inl fault); none_before = λ earlier less found. none_before earlier (omega arith) found })

  pub first_err : {S T : Type 0} (said : S → Said) (say : T → List Said) (operands : List (List ℕ)) (e : LineFault) → operands ≡ first ∷ second ∷ []
      → ReadsField limit (below end) said first (Err e) → ReadsFields limit (below end ∷ below other ∷ []) say operands (Err e)
  first_err said say operands (Refused why) are reads =
      subst (λ (operands : List (List ℕ)). RefusesFields limit (below end ∷ below other ∷ []) operands why) (sym are) (first_refused why reads)
  first_err said say operands NoMemory are reads = inl reads

  pub second_err : {S T : Type 0} (said : S → Said) (say : T → List Said) (operands : List (List ℕ)) (e : LineFault) → operands ≡ first ∷ second ∷ []
      → ReadsField limit (below other) said second (Err e) → ReadsFields limit (below end ∷ below other ∷ []) say operands (Err e)
  second_err said say operands (Refused why) are reads =
      subst (λ (operands : List (List ℕ)). RefusesFields limit (below end ∷ below other ∷ []) operands why) (sym are) (second_refused why reads)
  second_err said say operands NoMemory are reads = inr (inl reads)

  pub both : (operands : List (List ℕ)) (one more : Said) → operands ≡ first ∷ second ∷ []
      → SaysField limit (below end) first one → SaysField limit (below other) second more → SaysAll limit (below end ∷ below other ∷ []) operands (one ∷ more ∷ [])
  both operands one more are says also =
      subst (λ (operands : List (List ℕ)). SaysAll limit (below end ∷ below other ∷ []) operands (one ∷ more ∷ [])) (sym are) (says, (also, tt))
