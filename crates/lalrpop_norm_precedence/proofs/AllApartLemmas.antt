-- No two names of all the rules' levels are the same; for the clause of the pass that names levels.
use Rattle.std.proofs.Common.{◌≡◌, ℕ, ◌<◌, false, List, [], ◌∷◌}
use Rattle.std.proofs.Common.{◌++◌, refl}
use Rattle.std.proofs.Common.{ap, sym, ◌∙◌, subst, inl, inr, ◌⊎◌, arith}
use Rattle.std.specs.Prelude.{map, flat_map}
use Rattle.std.specs.Str.{bytes_eq}
use Rattle.std.proofs.lemmas.List.{map-append}
use Rattle.lalrpop_grammar_symbols.specs.Symbols.{Text}
use Rattle.lalrpop_grammar.specs.WrittenGrammar.{Rule}
use Rattle.lalrpop_grammar_language.specs.Among.{Among}
use Rattle.lalrpop_grammar_language.specs.Enabled.{has_text}
use Rattle.lalrpop_grammar_rules.proofs.BareNameLemmas.{same_text-sym}
use Rattle.lalrpop_norm_theory.specs.Keys.{before_tilde}
use Rattle.lalrpop_norm_theory.specs.Premises.{AreDifferent}
use Rattle.lalrpop_grammar_language.proofs.AmongLemmas.{map_among}
use Rattle.lalrpop_grammar_language.proofs.OrderLemmas.{among_parts}
use Rattle.lalrpop_norm_theory.specs.LevelNames.{leveled_keys_of, name_of_leveled_key, tighter_levels}
use Rattle.lalrpop_norm_precedence.specs.TakenTimes.{AreSmallTimes}
use Rattle.lalrpop_norm_precedence.specs.GivenNames.{Times, taken_behind_rule}
use Rattle.lalrpop_norm_precedence.proofs.GivenLemmas.{AreGiven, apart-among}
use Rattle.lalrpop_norm_precedence.proofs.ApartLemmas.{IsAtMost, IsBetween, all-grows, at_most-trans, between-apart, between-wider}
use Rattle.lalrpop_norm_precedence.proofs.ApartLemmas.{name-apart, different-parts, names_of_rule, rule-between, rule-different}

-- the names of all rules, each rule by its levels

abbrev pub names_of_rules : (Text → ℕ → Text) → List Rule → List Text
names_of_rules f rs = map (name_of_leveled_key f) (flat_map leveled_keys_of rs)

names-front : (f : Text → ℕ → Text) (r : Rule) (rs : List Rule) →
    names_of_rules f (r ∷ rs) ≡ names_of_rule f r ++ names_of_rules f rs
names-front f r rs = map-append (name_of_leveled_key f) (leveled_keys_of r) (flat_map leveled_keys_of rs)

names-parts : (f : Text → ℕ → Text) (r : Rule) (rs : List Rule) (n : Text) → Among (names_of_rules f (r ∷ rs)) n →
    Among (names_of_rule f r) n ⊎ Among (names_of_rules f rs) n
names-parts f r rs n i = among_parts (names_of_rule f r) (names_of_rules f rs) n (subst (λ l. Among l n) (names-front f r rs) i)

-- a rule's name, or one that was given from here on: to a plain rule's level, or to a macro's
data IsNamedFrom (rs : List Rule) (plain last_plain macros last_macros : Times) (n : Text) : Type 0 where
  of_rule : (q : Rule) → Among rs q → q.name ≡ n → IsNamedFrom rs plain last_plain macros last_macros n
  of_plain : IsBetween plain last_plain n → IsNamedFrom rs plain last_plain macros last_macros n
  of_macro : IsBetween macros last_macros n → IsNamedFrom rs plain last_plain macros last_macros n

-- no rule's name has a tilde
abbrev pub AreClear : List Rule → Type 0
AreClear rs = (q : Rule) → Among rs q → before_tilde q.name ≡ q.name

module _ (f : Text → ℕ →
    Text) (last_plain last_macros : Times) (room : AreSmallTimes last_plain) (space : AreSmallTimes last_macros) where
  plain-grows : (rs : List Rule) (plain macros : Times) → AreGiven f last_plain last_macros rs plain macros → IsAtMost plain last_plain
  plain-grows [] plain macros g t = let e = ap (λ h. h t) g.0 in omega (arith, e)
  plain-grows (r ∷ rs) plain macros (inl g) t =
      let a = all-grows r plain (tighter_levels r) t in
      let b = plain-grows rs (taken_behind_rule r plain) macros g.2 t in
      omega (arith, a, b)
  plain-grows (r ∷ rs) plain macros (inr g) t = plain-grows rs plain (taken_behind_rule r macros) g.2 t

  macros-grow : (rs : List Rule) (plain macros : Times) → AreGiven f last_plain last_macros rs plain macros →
      IsAtMost macros last_macros
  macros-grow [] plain macros g t = let e = ap (λ h. h t) g.1 in omega (arith, e)
  macros-grow (r ∷ rs) plain macros (inl g) t = macros-grow rs (taken_behind_rule r plain) macros g.2 t
  macros-grow (r ∷ rs) plain macros (inr g) t =
      let a = all-grows r macros (tighter_levels r) t in
      let b = macros-grow rs plain (taken_behind_rule r macros) g.2 t in
      omega (arith, a, b)

  -- what is named behind a rule
  behind-plain : (r : Rule) (rs : List Rule) (plain macros : Times) (n : Text) →
      IsNamedFrom rs (taken_behind_rule r plain) last_plain macros last_macros n →
      IsNamedFrom (r ∷ rs) plain last_plain macros last_macros n
  behind-plain r rs plain macros n (IsNamedFrom.of_rule q i e) = IsNamedFrom.of_rule q (inr i) e
  behind-plain r rs plain macros n (IsNamedFrom.of_plain w) =
      IsNamedFrom.of_plain (between-wider (taken_behind_rule r plain) plain last_plain last_plain n
      (all-grows r plain (tighter_levels r)) (λ t. omega arith) w)
  behind-plain r rs plain macros n (IsNamedFrom.of_macro w) = IsNamedFrom.of_macro w

  behind-macro : (r : Rule) (rs : List Rule) (plain macros : Times) (n : Text) →
      IsNamedFrom rs plain last_plain (taken_behind_rule r macros) last_macros n →
      IsNamedFrom (r ∷ rs) plain last_plain macros last_macros n
  behind-macro r rs plain macros n (IsNamedFrom.of_rule q i e) = IsNamedFrom.of_rule q (inr i) e
  behind-macro r rs plain macros n (IsNamedFrom.of_plain w) = IsNamedFrom.of_plain w
  behind-macro r rs plain macros n (IsNamedFrom.of_macro w) =
      IsNamedFrom.of_macro (between-wider (taken_behind_rule r macros) macros last_macros last_macros n
      (all-grows r macros (tighter_levels r)) (λ t. omega arith) w)

  -- what is named of the first rule
  first-plain : (r : Rule) (rs : List Rule) (plain macros : Times) (n : Text) → IsAtMost (taken_behind_rule r plain) last_plain →
      (r.name ≡ n) ⊎ IsBetween plain (taken_behind_rule r plain) n → IsNamedFrom (r ∷ rs) plain last_plain macros last_macros n
  first-plain r rs plain macros n most (inl e) = IsNamedFrom.of_rule r (inl refl) e
  first-plain r rs plain macros n most (inr w) =
      IsNamedFrom.of_plain (between-wider plain plain (taken_behind_rule r plain) last_plain n (λ t. omega arith) most w)

  first-macro : (r : Rule) (rs : List Rule) (plain macros : Times) (n : Text) → IsAtMost (taken_behind_rule r macros) last_macros →
      (r.name ≡ n) ⊎ IsBetween macros (taken_behind_rule r macros) n → IsNamedFrom (r ∷ rs) plain last_plain macros last_macros n
  first-macro r rs plain macros n most (inl e) = IsNamedFrom.of_rule r (inl refl) e
  first-macro r rs plain macros n most (inr w) =
      IsNamedFrom.of_macro (between-wider macros macros (taken_behind_rule r macros) last_macros n (λ t. omega arith) most w)

  each-name : (rs : List Rule) (plain macros : Times) → AreGiven f last_plain last_macros rs plain macros → AreClear rs →
      (n : Text) → Among (names_of_rules f rs) n → IsNamedFrom rs plain last_plain macros last_macros n
  each-name [] plain macros g clear n i = absurd i
  each-name (r ∷ rs) plain macros (inl g) clear n i =
      go (names-parts f r rs n i) (λ k. each-name rs (taken_behind_rule r plain) macros g.2 (λ q j. clear q (inr j)) n k)
    where
      most : IsAtMost (taken_behind_rule r plain) last_plain
      most = plain-grows rs (taken_behind_rule r plain) macros g.2

      go : Among (names_of_rule f r) n ⊎ Among (names_of_rules f rs) n →
          (Among (names_of_rules f rs) n → IsNamedFrom rs (taken_behind_rule r plain) last_plain macros last_macros n) →
          IsNamedFrom (r ∷ rs) plain last_plain macros last_macros n
      go (inl k) later =
          first-plain r rs plain macros n most (rule-between f r (clear r (inl refl)) last_plain room plain g.1 most n k)
      go (inr k) later = behind-plain r rs plain macros n (later k)
  each-name (r ∷ rs) plain macros (inr g) clear n i =
      go (names-parts f r rs n i) (λ k. each-name rs plain (taken_behind_rule r macros) g.2 (λ q j. clear q (inr j)) n k)
    where
      most : IsAtMost (taken_behind_rule r macros) last_macros
      most = macros-grow rs plain (taken_behind_rule r macros) g.2

      go : Among (names_of_rule f r) n ⊎ Among (names_of_rules f rs) n →
          (Among (names_of_rules f rs) n → IsNamedFrom rs plain last_plain (taken_behind_rule r macros) last_macros n) →
          IsNamedFrom (r ∷ rs) plain last_plain macros last_macros n
      go (inl k) later =
          first-macro r rs plain macros n most (rule-between f r (clear r (inl refl)) last_macros space macros g.1 most n k)
      go (inr k) later = behind-macro r rs plain macros n (later k)

  -- a name of the first rule and one from behind it
  two-apart : (r : Rule) (rs : List Rule) (low high plain macros : Times) (n m : Text) → AreClear (r ∷ rs) →
      has_text r.name (map (λ q. q.name) rs) ≡ false → ((q : Rule) → Among (r ∷ rs) q → 0 < low q.name) →
      0 < plain r.name → 0 < macros r.name →
      (IsBetween low high n → IsBetween plain last_plain m → bytes_eq n m ≡ false) →
      (IsBetween low high n → IsBetween macros last_macros m → bytes_eq n m ≡ false) →
      (r.name ≡ n) ⊎ IsBetween low high n → IsNamedFrom rs plain last_plain macros last_macros m → bytes_eq n m ≡ false
  two-apart r rs low high plain macros n m clear differs taken a b to_plain to_macro (inl e) (IsNamedFrom.of_rule q i h) =
      subst (λ t. bytes_eq t m ≡ false) e (subst (λ t. bytes_eq r.name t ≡ false) h
      (apart-among r.name (map (λ p. p.name) rs) differs q.name (map_among (λ p. p.name) rs q i)))
  two-apart r rs low high plain macros n m clear differs taken a b to_plain to_macro (inl e) (IsNamedFrom.of_plain w) =
      subst (λ t. bytes_eq t m ≡ false) e (name-apart plain last_plain r.name m (clear r (inl refl)) a w)
  two-apart r rs low high plain macros n m clear differs taken a b to_plain to_macro (inl e) (IsNamedFrom.of_macro w) =
      subst (λ t. bytes_eq t m ≡ false) e (name-apart macros last_macros r.name m (clear r (inl refl)) b w)
  two-apart r rs low high plain macros n m clear differs taken a b to_plain to_macro (inr v) (IsNamedFrom.of_rule q i h) =
      same_text-sym n m ∙ subst (λ t. bytes_eq t n ≡ false) h (name-apart low high q.name n (clear q (inr i)) (taken q (inr i)) v)
  two-apart r rs low high plain macros n m clear differs taken a b to_plain to_macro (inr v) (IsNamedFrom.of_plain w) = to_plain v w
  two-apart r rs low high plain macros n m clear differs taken a b to_plain to_macro (inr v) (IsNamedFrom.of_macro w) = to_macro v w

  more-than : (a b : Times) (t : Text) → IsAtMost a b → 0 < a t → 0 < b t
  more-than a b t most lt = let h = most t in omega (arith, h, lt)

  -- where rules' names differ and are taken, and macros' levels avoid all that plain rules' take, all names differ
  pub names-apart : (rs : List Rule) (plain macros : Times) → AreGiven f last_plain last_macros rs plain macros → AreClear rs →
      AreDifferent (map (λ q. q.name) rs) → ((q : Rule) → Among rs q → 0 < plain q.name) → IsAtMost last_plain macros →
      AreDifferent (names_of_rules f rs)
  names-apart [] plain macros g clear d taken last = tt
  names-apart (r ∷ rs) plain macros (inl g) clear d taken last =
      let grown = all-grows r plain (tighter_levels r) in
      let most = plain-grows rs (taken_behind_rule r plain) macros g.2 in
      let over = at_most-trans (taken_behind_rule r plain) last_plain macros most last in
      subst AreDifferent (sym (names-front f r rs)) (different-parts (names_of_rule f r) (names_of_rules f rs)
      (rule-different f r (clear r (inl refl)) last_plain room plain g.1 most (taken r (inl refl)))
      (names-apart rs (taken_behind_rule r plain) macros g.2 (λ q i. clear q (inr i)) d.1
      (λ q i. more-than plain (taken_behind_rule r plain) q.name grown (taken q (inr i))) last)
      (λ n m i j. two-apart r rs plain (taken_behind_rule r plain) (taken_behind_rule r plain) macros n m clear d.0 taken
      (more-than plain (taken_behind_rule r plain) r.name grown (taken r (inl refl)))
      (more-than (taken_behind_rule r plain) macros r.name over
      (more-than plain (taken_behind_rule r plain) r.name grown (taken r (inl refl))))
      (λ v w. between-apart plain (taken_behind_rule r plain) (taken_behind_rule r plain) last_plain n m (λ t. omega arith) v w)
      (λ v w. between-apart plain (taken_behind_rule r plain) macros last_macros n m over v w)
      (rule-between f r (clear r (inl refl)) last_plain room plain g.1 most n i)
      (each-name rs (taken_behind_rule r plain) macros g.2 (λ q k. clear q (inr k)) m j)))
  names-apart (r ∷ rs) plain macros (inr g) clear d taken last =
      let grown = all-grows r macros (tighter_levels r) in
      let most = macros-grow rs plain (taken_behind_rule r macros) g.2 in
      let whole = plain-grows rs plain (taken_behind_rule r macros) g.2 in
      let over = at_most-trans plain last_plain macros whole last in
      let further = at_most-trans last_plain macros (taken_behind_rule r macros) last grown in
      subst AreDifferent (sym (names-front f r rs)) (different-parts (names_of_rule f r) (names_of_rules f rs)
      (rule-different f r (clear r (inl refl)) last_macros space macros g.1 most
      (more-than plain macros r.name over (taken r (inl refl))))
      (names-apart rs plain (taken_behind_rule r macros) g.2 (λ q i. clear q (inr i)) d.1 (λ q i. taken q (inr i)) further)
      (λ n m i j. two-apart r rs macros (taken_behind_rule r macros) plain (taken_behind_rule r macros) n m clear d.0
      (λ q k. more-than plain macros q.name over (taken q k))
      (taken r (inl refl))
      (more-than macros (taken_behind_rule r macros) r.name grown (more-than plain macros r.name over (taken r (inl refl))))
      (λ v w. same_text-sym n m ∙ between-apart plain last_plain macros (taken_behind_rule r macros) m n last w v)
      (λ v w. between-apart macros (taken_behind_rule r macros) (taken_behind_rule r macros) last_macros n m (λ t. omega arith) v w)
      (rule-between f r (clear r (inl refl)) last_macros space macros g.1 most n i)
      (each-name rs plain (taken_behind_rule r macros) g.2 (λ q k. clear q (inr k)) m j)))
