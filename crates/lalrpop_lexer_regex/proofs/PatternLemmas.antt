-- The steps of the loops over repetitions, and over branches and their atoms; and a group by its levels. For `pattern`.
use Rattle.std.proofs.Common.{◌≡◌, ℕ, zero, suc, ◌+◌, ◌-◌, ◌<◌, ◌≤◌, Bool, true, false, ◌==◌, List, []}
use Rattle.std.proofs.Common.{◌∷◌, ◌++◌, length, Option, Result, Ok, Err, ap, ◌∙◌, refl, arith}
use Rattle.lalrpop_lexer_pattern.specs.Matches.{Pattern}
use Rattle.lalrpop_lexer_regex.specs.declared.classes.fault.PatternError.{PatternError}
use Rattle.lalrpop_lexer_regex.specs.declared.classes.fault.PatternError.TheVariants as error
use Rattle.lalrpop_lexer_regex.specs.declared.flags.Flags.{Flags}
use Rattle.lalrpop_lexer_regex.specs.declared.classes.fault.PatternFaultKind.TheVariants.{Unsupported}
use Rattle.lalrpop_lexer_regex.specs.Outcome.{Fault, Reading, FailsReading, ◌>>=◌, closing_at}
use Rattle.lalrpop_lexer_regex.specs.Repeats.{begins_repeat, repeats_read}
use Rattle.lalrpop_lexer_regex.specs.Patterns.{concat_of, one_of, repeats_from, branches_from, inner_at, pattern_at, pattern_with}
use Rattle.lalrpop_lexer_regex.specs.Patterns.{factor_with}

-- where a group may still be opened, it is a pattern with one level less, and a closing bracket
pub inner_at-more : (d : ℕ) (f : Flags) (left : ℕ) (t : List ℕ) → 0 < d
    → inner_at d f left t ≡ (pattern_at (d - 1) f t >>= λ x. closing_at 41 x.1 >>= λ r. Ok (x.0, r))
unfolding inner_at
inner_at-more zero f left t h = absurd (omega arith)
inner_at-more (suc d) f left t h = let e : suc d - 1 ≡ d = omega arith in rw e refl

-- where no group may be opened any more, the group is refused at its opening bracket
pub inner_at-none : (d : ℕ) (f : Flags) (left : ℕ) (t : List ℕ) → d ≡ 0 → inner_at d f left t ≡ Err (Unsupported, left)
unfolding inner_at
inner_at-none d f left t e = rw e refl

-- a pattern by its definition: branches, from none on
pub pattern_with-is : (atom : Flags → List ℕ → Reading (Pattern × Flags)) (f : Flags) (t : List ℕ)
    → pattern_with atom f t ≡ branches_from (factor_with atom) (length t + 1) [] [] f t
unfolding pattern_with
pattern_with-is atom f t = refl

-- the exits of a reading that goes on
pub fails_first : {A B : Type 0} (e : PatternError) (r : Result A Fault) (f : A → Result B Fault) → FailsReading e r
    → FailsReading e (r >>= f)
fails_first error.Memory r f h = tt
fails_first (error.Fault kind left) r f h = rw h refl

-- where the first step succeeds, a fault of the second one is a fault of both
pub fails_second : {A B : Type 0} (e : PatternError) (r : Result A Fault) (x : A) (f : A → Result B Fault) → r ≡ Ok x
    → FailsReading e (f x) → FailsReading e (r >>= f)
fails_second e r x f h g = rw h g

-- what is left to read after some repetitions
pub record IsRepeating (p : Pattern) (whole rest : List ℕ) (q : Pattern) : Type 0 where
  pub shorter : length rest ≤ length whole
  pub count : ℕ
  pub enough : length rest < count
  pub same : repeats_from (length whole + 1) p whole ≡ repeats_from count q rest

-- before the first sign of repetition is read, the pattern is the one that they follow
pub repeats_start : (p : Pattern) (whole : List ℕ) → IsRepeating p whole whole p
repeats_start p whole = record { shorter = omega arith; count = length whole + 1; enough = omega arith; same = refl }

module _ (p q : Pattern) (whole rest t : List ℕ) (c : ℕ) (e : rest ≡ c ∷ t) where
  -- in front of a character that begins no repetition, the repetitions end
  pub repeats_stop : (n : ℕ) → length rest < n → begins_repeat c ≡ false → repeats_from n q rest ≡ Ok (q, rest)
  unfolding repeats_from
  repeats_stop zero h stop = absurd (omega arith)
  repeats_stop (suc n) h stop = rw (e, stop) refl

  -- the loop over repetitions ends in front of a character that begins none
  pub repeats_end : IsRepeating p whole rest q → begins_repeat c ≡ false → repeats_from (length whole + 1) p whole ≡ Ok (q, rest)
  repeats_end w stop = w.same ∙ repeats_stop w.count w.enough stop

  more_repeats : (n : ℕ) (x : ℕ × (Option ℕ × Bool)) (after : List ℕ) → length rest < n → begins_repeat c ≡ true
      → repeats_read rest ≡ Ok (x, after) → length after < length rest →
      (k : ℕ) × (length after < k) × (repeats_from n q rest ≡ repeats_from k (Pattern.repetition x.0 x.1.0 x.1.1 q) after)
  unfolding repeats_from
  more_repeats zero x after h go read less = absurd (omega arith)
  more_repeats (suc n) x after h go read less =
      let one : repeats_read (c ∷ t) ≡ Ok (x, after) = rw e at read in (n, omega arith, rw (e, go, one) refl)

  -- one more repetition was read
  pub repeats_more : IsRepeating p whole rest q → (x : ℕ × (Option ℕ × Bool)) (after : List ℕ) → begins_repeat c ≡ true
      → repeats_read rest ≡ Ok (x, after) → length after < length rest →
      IsRepeating p whole after (Pattern.repetition x.0 x.1.0 x.1.1 q)
  repeats_more w x after go read less =
      let next = more_repeats w.count x after w.enough go read less in
      record { shorter = omega (arith, w.shorter); count = next.0; enough = next.1; same = w.same ∙ next.2 }

  repeats_stuck : (n : ℕ) (f : PatternError) → length rest < n → begins_repeat c ≡ true → FailsReading f (repeats_read rest)
      → FailsReading f (repeats_from n q rest)
  unfolding repeats_from
  repeats_stuck n error.Memory h go read = tt
  repeats_stuck zero (error.Fault kind left) h go read = absurd (omega arith)
  repeats_stuck (suc n) (error.Fault kind left) h go read =
      let one : repeats_read (c ∷ t) ≡ Err (kind, left) = rw e at read in rw (e, go, one) refl

  -- a fault in one repetition is a fault of all of them
  pub repeats_fail : IsRepeating p whole rest q → (f : PatternError) → begins_repeat c ≡ true → FailsReading f (repeats_read rest)
      → FailsReading f (repeats_from (length whole + 1) p whole)
  repeats_fail w f go read = rw w.same (repeats_stuck w.count f w.enough go read)

-- at the end of the text, the repetitions end
pub no_repeats : (n : ℕ) (q : Pattern) (rest : List ℕ) → length rest < n → rest ≡ [] → repeats_from n q rest ≡ Ok (q, rest)
unfolding repeats_from
no_repeats zero q rest h e = absurd (omega arith)
no_repeats (suc n) q rest h e = rw e refl

-- the loop over repetitions ends at the end of the text
pub repeats_none : (p q : Pattern) (whole rest : List ℕ) → IsRepeating p whole rest q → rest ≡ []
    → repeats_from (length whole + 1) p whole ≡ Ok (q, rest)
repeats_none p q whole rest w e = w.same ∙ no_repeats w.count q rest w.enough e

-- what is left to read after some branches and pieces
pub record IsReading (piece : Flags → List ℕ → Reading (Pattern × Flags)) (before : Flags) (whole : List ℕ)
    (branches pieces : List Pattern) (flags : Flags) (rest : List ℕ) : Type 0 where
  pub shorter : length rest ≤ length whole
  pub count : ℕ
  pub enough : length rest < count
  pub same : branches_from piece (length whole + 1) [] [] before whole ≡ branches_from piece count branches pieces flags rest

-- before the loop there are no branches and no atoms, and the whole text is left
pub branches_start : (piece : Flags → List ℕ → Reading (Pattern × Flags)) (f : Flags) (whole : List ℕ)
    (branches pieces : List Pattern) → branches ≡ [] → pieces ≡ [] → IsReading piece f whole branches pieces f whole
branches_start piece f whole branches pieces a b =
    rw (a, b) (record { shorter = omega arith; count = length whole + 1; enough = omega arith; same = refl })

module _ (piece : Flags → List ℕ → Reading (Pattern × Flags)) (before : Flags) (whole : List ℕ) (branches pieces : List Pattern)
    (f : Flags) (rest t : List ℕ) (c : ℕ) (e : rest ≡ c ∷ t) where
  branches_stop : (n : ℕ) → length rest < n → (c == 41) ≡ true
      → branches_from piece n branches pieces f rest ≡ Ok (one_of (branches ++ concat_of pieces ∷ []), rest)
  unfolding branches_from
  branches_stop zero h stop = absurd (omega arith)
  branches_stop (suc n) h stop = rw (e, stop) refl

  -- the loop over branches ends in front of a closing bracket
  pub branches_end : IsReading piece before whole branches pieces f rest → (c == 41) ≡ true
      → branches_from piece (length whole + 1) [] [] before whole ≡ Ok (one_of (branches ++ concat_of pieces ∷ []), rest)
  branches_end w stop = w.same ∙ branches_stop w.count w.enough stop

  at_bar : (n : ℕ) → length rest < n → (c == 41) ≡ false → (c == 124) ≡ true →
      (k : ℕ) × (length t < k)
      × (branches_from piece n branches pieces f rest ≡ branches_from piece k (branches ++ concat_of pieces ∷ []) [] f t)
  unfolding branches_from
  at_bar zero h go bar = absurd (omega arith)
  at_bar (suc n) h go bar = (n, omega (arith, ap length e), rw (e, go, bar) refl)

  -- a bar was read, which ends the branch under way
  pub branches_bar : IsReading piece before whole branches pieces f rest → (c == 41) ≡ false → (c == 124) ≡ true
      → IsReading piece before whole (branches ++ concat_of pieces ∷ []) [] f t
  branches_bar w go bar =
      let next = at_bar w.count w.enough go bar in
      record { shorter = omega (arith, w.shorter, ap length e); count = next.0; enough = next.1; same = w.same ∙ next.2 }

  at_piece : (n : ℕ) (x : Pattern × Flags) (after : List ℕ) → length rest < n → (c == 41) ≡ false → (c == 124) ≡ false
      → piece f rest ≡ Ok (x, after) → length after < length rest →
      (k : ℕ) × (length after < k)
      × (branches_from piece n branches pieces f rest ≡ branches_from piece k branches (pieces ++ x.0 ∷ []) x.1 after)
  unfolding branches_from
  at_piece zero x after h go bar read less = absurd (omega arith)
  at_piece (suc n) x after h go bar read less =
      let one : piece f (c ∷ t) ≡ Ok (x, after) = rw e at read in (n, omega arith, rw (e, go, bar, one) refl)

  -- one more atom with its repetitions was read, and the flags from there on
  pub branches_piece : IsReading piece before whole branches pieces f rest → (x : Pattern × Flags) (after : List ℕ)
      → (c == 41) ≡ false → (c == 124) ≡ false → piece f rest ≡ Ok (x, after) → length after < length rest →
      IsReading piece before whole branches (pieces ++ x.0 ∷ []) x.1 after
  branches_piece w x after go bar read less =
      let next = at_piece w.count x after w.enough go bar read less in
      record { shorter = omega (arith, w.shorter); count = next.0; enough = next.1; same = w.same ∙ next.2 }

  branches_stuck : (n : ℕ) (g : PatternError) → length rest < n → (c == 41) ≡ false → (c == 124) ≡ false
      → FailsReading g (piece f rest) → FailsReading g (branches_from piece n branches pieces f rest)
  unfolding branches_from
  branches_stuck n error.Memory h go bar read = tt
  branches_stuck zero (error.Fault kind left) h go bar read = absurd (omega arith)
  branches_stuck (suc n) (error.Fault kind left) h go bar read =
      let one : piece f (c ∷ t) ≡ Err (kind, left) = rw e at read in rw (e, go, bar, one) refl

  -- a fault in an atom or its repetitions is a fault of the pattern
  pub branches_fail : IsReading piece before whole branches pieces f rest → (g : PatternError) → (c == 41) ≡ false
      → (c == 124) ≡ false → FailsReading g (piece f rest) →
      FailsReading g (branches_from piece (length whole + 1) [] [] before whole)
  branches_fail w g go bar read = rw w.same (branches_stuck w.count g w.enough go bar read)

no_branches : (piece : Flags → List ℕ → Reading (Pattern × Flags)) (n : ℕ) (branches pieces : List Pattern) (f : Flags)
    (rest : List ℕ) → length rest < n → rest ≡ [] →
    branches_from piece n branches pieces f rest ≡ Ok (one_of (branches ++ concat_of pieces ∷ []), rest)
unfolding branches_from
no_branches piece zero branches pieces f rest h e = absurd (omega arith)
no_branches piece (suc n) branches pieces f rest h e = rw e refl

-- the loop over branches ends at the end of the text
pub branches_none : (piece : Flags → List ℕ → Reading (Pattern × Flags)) (before : Flags) (whole : List ℕ)
    (branches pieces : List Pattern) (f : Flags) (rest : List ℕ) → IsReading piece before whole branches pieces f rest
    → rest ≡ [] →
    branches_from piece (length whole + 1) [] [] before whole ≡ Ok (one_of (branches ++ concat_of pieces ∷ []), rest)
branches_none piece before whole branches pieces f rest w e = w.same ∙ no_branches piece w.count branches pieces f rest w.enough e
