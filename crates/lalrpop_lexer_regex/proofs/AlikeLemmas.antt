-- When the pattern that is read is like the one that was printed, construct by construct. For printed patterns.
use Rattle.std.proofs.Common.{◌≡◌, ◌↔◌, ℕ, zero, suc, ◌<◌, ◌≤◌, ◌⊎◌, Bool, true, false, List, []}
use Rattle.std.proofs.Common.{◌∷◌, ◌++◌, map, Option, None, Some, refl, sym, ap, ◌∙◌, inl, inr, arith, append_assoc}
use Rattle.std.proofs.Common.{append-nil, true≢false}
use Rattle.std.proofs.lemmas.Bool.Decides.{nat_tests}
use Rattle.std.specs.Prelude.{IfSome}
use Rattle.std.specs.Option.{option_or}
use Rattle.lalrpop_lexer_pattern.specs.Matches.{Pattern, Matches, Power, concat_all, alternation_all}
use Rattle.lalrpop_lexer_pattern.specs.Ranges.{InRanges}
use Rattle.lalrpop_lexer_pattern.specs.Refused.{refusal}
use Rattle.lalrpop_lexer_pattern.specs.declared.class.Range.{Range}
use Rattle.lalrpop_lexer_regex.specs.Patterns.{concat_of, one_of}
use Rattle.lalrpop_lexer_regex.specs.Printing.{is_group_name, bounds_fall, is_nothing}
use Rattle.lalrpop_lexer_regex.specs.Printable.{HaveScalarEnds, IsPrintedInFull}
use Rattle.lalrpop_lexer_regex.proofs.ClassTextLemmas.{read_set, read_members}

-- the pattern that is read matches what the printed one matches, and is refused for the same cause
pub record IsAlike (q p : Pattern) : Type 0 where
  pub words : (w : List ℕ) → Matches q w ↔ Matches p w
  pub refused : IsPrintedInFull p → refusal q ≡ refusal p

or_none : {X : Type 0} (x : Option X) → option_or x None ≡ x
or_none None = refl
or_none (Some x) = refl

or_assoc : {X : Type 0} (x y z : Option X) → option_or (option_or x y) z ≡ option_or x (option_or y z)
or_assoc None y z = refl
or_assoc (Some x) y z = refl

no_member : (c : ℕ) → InRanges [] c → ⊥
no_member c m = omega (arith, m.1.1)

matches_nothing : (w : List ℕ) → Matches (Pattern.class []) w → ⊥
matches_nothing w m = no_member m.0 m.2

joined_words : (ps qs : List Pattern) (w : List ℕ) → Matches (concat_all (ps ++ qs)) w
    ↔ Matches (Pattern.concat (concat_all ps) (concat_all qs)) w
joined_words [] qs w = (λ m. ([], w, refl, refl, m), λ m. let same : w ≡ m.1 = m.2 ∙ ap (λ u. u ++ m.1) m.3 in rw same m.4)
joined_words (p ∷ ps) qs w = (
  λ m.
      let rest = (joined_words ps qs m.1).0 m.4 in (
        m.0 ++ rest.0,
        rest.1,
        m.2 ∙ ap (λ v. m.0 ++ v) rest.2 ∙ sym (append_assoc m.0 rest.0 rest.1),
        (m.0, rest.0, refl, m.3, rest.3),
        rest.4,
      ),
  λ m.
      let front = m.3 in (
        front.0,
        front.1 ++ m.1,
        m.2 ∙ ap (λ u. u ++ m.1) front.2 ∙ append_assoc front.0 front.1 m.1,
        front.3,
        (joined_words ps qs (front.1 ++ m.1)).1 (front.1, m.1, refl, front.4, m.4),
      ),
)

joined_refusal : (ps qs : List Pattern) → refusal (concat_all (ps ++ qs))
    ≡ option_or (refusal (concat_all ps)) (refusal (concat_all qs))
joined_refusal [] qs = refl
joined_refusal (p ∷ ps) qs =
    ap (λ r. option_or (refusal p) r) (joined_refusal ps qs)
    ∙ sym (or_assoc (refusal p) (refusal (concat_all ps)) (refusal (concat_all qs)))

-- sequences one after another
pub alike_concat : (ps qs : List Pattern) (p q : Pattern) → IsAlike (concat_all ps) p → IsAlike (concat_all qs) q
    → IsAlike (concat_all (ps ++ qs)) (Pattern.concat p q)
alike_concat ps qs p q a b = record {
  words = λ w. (
    λ m. let parts = (joined_words ps qs w).0 m in (parts.0, parts.1, parts.2, (a.words parts.0).0 parts.3, (b.words parts.1).0 parts.4),
    λ m. (joined_words ps qs w).1 (m.0, m.1, m.2, (a.words m.0).1 m.3, (b.words m.1).1 m.4),
  );
  refused = λ full.
      joined_refusal ps qs ∙ ap (λ r. option_or r (refusal (concat_all qs))) (a.refused full.0)
      ∙ ap (λ r. option_or (refusal p) r) (b.refused full.1);
}

-- a pattern, and nothing behind it
one_words : (p : Pattern) (w : List ℕ) → Matches (concat_all (p ∷ [])) w ↔ Matches p w
one_words p w = (
  λ m. let same : w ≡ m.0 = m.2 ∙ ap (λ v. m.0 ++ v) m.4 ∙ append-nil m.0 in rw same m.3,
  λ m. (w, [], sym (append-nil w), m, refl),
)

-- one piece as a sequence
pub alike_sequence : (q p : Pattern) → IsAlike q p → IsAlike (concat_all (q ∷ [])) p
alike_sequence q p a = record {
  words = λ w. (λ m. (a.words w).0 ((one_words q w).0 m), λ m. (one_words q w).1 ((a.words w).1 m));
  refused = λ full. or_none (refusal q) ∙ a.refused full;
}

alike_concat_of : (ps : List Pattern) (p : Pattern) → IsAlike (concat_all ps) p → IsAlike (concat_of ps) p
alike_concat_of [] p a = a
alike_concat_of (q ∷ []) p a = record {
  words = λ w. (λ m. (a.words w).0 ((one_words q w).1 m), λ m. (one_words q w).0 ((a.words w).1 m));
  refused = λ full. sym (or_none (refusal q)) ∙ a.refused full;
}
alike_concat_of (q ∷ r ∷ ps) p a = a

-- a sequence as the only branch
pub alike_choice : (ps : List Pattern) (p : Pattern) → IsAlike (concat_all ps) p → IsAlike (alternation_all (concat_of ps ∷ [])) p
alike_choice ps p a =
    let one = alike_concat_of ps p a in
    record {
      words = λ w. (λ m. elim m [ inl h ↦ (one.words w).0 h | inr h ↦ absurd (matches_nothing w h) ], λ m. inl ((one.words w).1 m));
      refused = λ full. or_none (refusal (concat_of ps)) ∙ one.refused full;
    }

-- branches as one pattern
pub alike_one_of : (ps : List Pattern) (p : Pattern) → IsAlike (alternation_all ps) p → IsAlike (one_of ps) p
alike_one_of [] p a = a
alike_one_of (q ∷ []) p a = record {
  words = λ w. (
    λ m. (a.words w).0 (inl m),
    λ m. let two : Matches q w ⊎ Matches (Pattern.class []) w = (a.words w).1 m in
        elim two [ inl h ↦ h | inr h ↦ absurd (matches_nothing w h) ],
  );
  refused = λ full. sym (or_none (refusal q)) ∙ a.refused full;
}
alike_one_of (q ∷ r ∷ ps) p a = a

choice_words : (ps qs : List Pattern) (w : List ℕ) → Matches (alternation_all (ps ++ qs)) w
    ↔ (Matches (alternation_all ps) w ⊎ Matches (alternation_all qs) w)
choice_words [] qs w = (λ m. inr m, λ m. elim m [ inl h ↦ absurd (matches_nothing w h) | inr h ↦ h ])
choice_words (p ∷ ps) qs w = (
  λ m. elim m [
    | inl h ↦ inl (inl h)
    | inr h ↦ elim ((choice_words ps qs w).0 h) [ inl g ↦ inl (inr g) | inr g ↦ inr g ]
  ],
  λ m. elim m [
    | inl h ↦ elim h [ inl g ↦ inl g | inr g ↦ inr ((choice_words ps qs w).1 (inl g)) ]
    | inr h ↦ inr ((choice_words ps qs w).1 (inr h))
  ],
)

choice_refusal : (ps qs : List Pattern) → refusal (alternation_all (ps ++ qs))
    ≡ option_or (refusal (alternation_all ps)) (refusal (alternation_all qs))
choice_refusal [] qs = refl
choice_refusal (p ∷ ps) qs =
    ap (λ r. option_or (refusal p) r) (choice_refusal ps qs)
    ∙ sym (or_assoc (refusal p) (refusal (alternation_all ps)) (refusal (alternation_all qs)))

-- branches behind branches
pub alike_alternation : (ps qs : List Pattern) (p q : Pattern) → IsAlike (alternation_all ps) p → IsAlike (alternation_all qs) q
    → IsAlike (alternation_all (ps ++ qs)) (Pattern.alternation p q)
alike_alternation ps qs p q a b = record {
  words = λ w. (
    λ m. elim ((choice_words ps qs w).0 m) [ inl h ↦ inl ((a.words w).0 h) | inr h ↦ inr ((b.words w).0 h) ],
    λ m. (choice_words ps qs w).1 (elim m [ inl h ↦ inl ((a.words w).1 h) | inr h ↦ inr ((b.words w).1 h) ]),
  );
  refused = λ full.
      choice_refusal ps qs ∙ ap (λ r. option_or r (refusal (alternation_all qs))) (a.refused full.0)
      ∙ ap (λ r. option_or (refusal p) r) (b.refused full.1);
}

nothing_words : (q : Pattern) (w : List ℕ) → is_nothing q ≡ true → Matches q w → ⊥
nothing_words (Pattern.class []) w h m = matches_nothing w m
nothing_words (Pattern.class (r ∷ rs)) w h m = absurd (cc)
nothing_words Pattern.empty w h m = absurd (cc)
nothing_words (Pattern.literal cs) w h m = absurd (cc)
nothing_words (Pattern.look l) w h m = absurd (cc)
nothing_words (Pattern.capture name p) w h m = absurd (cc)
nothing_words (Pattern.repetition min max greedy p) w h m = absurd (cc)
nothing_words (Pattern.concat p q) w h m = absurd (cc)
nothing_words (Pattern.alternation p q) w h m = absurd (cc)

nothing_refusal : (q : Pattern) → is_nothing q ≡ true → refusal q ≡ None
nothing_refusal (Pattern.class ranges) h = refl
nothing_refusal Pattern.empty h = refl
nothing_refusal (Pattern.literal cs) h = refl
nothing_refusal (Pattern.look l) h = absurd (cc)
nothing_refusal (Pattern.capture name p) h = absurd (cc)
nothing_refusal (Pattern.repetition min max greedy p) h = absurd (cc)
nothing_refusal (Pattern.concat p q) h = absurd (cc)
nothing_refusal (Pattern.alternation p q) h = absurd (cc)

-- an alternative that matches nothing may be left out
pub alike_last : (r p q : Pattern) → is_nothing q ≡ true → IsAlike r p → IsAlike r (Pattern.alternation p q)
alike_last r p q none a = record {
  words = λ w. (
    λ m. inl ((a.words w).0 m),
    λ m. elim m [ inl h ↦ (a.words w).1 h | inr h ↦ absurd (nothing_words q w none h) ],
  );
  refused = λ full.
      a.refused full.0 ∙ sym (ap (λ r. option_or (refusal p) r) (nothing_refusal q none) ∙ or_none (refusal p));
}

power_words : (q p : Pattern) → IsAlike q p → (k : ℕ) (w : List ℕ) → Power (Matches q) k w ↔ Power (Matches p) k w
power_words q p a zero w = (λ m. m, λ m. m)
power_words q p a (suc k) w = (
  λ m. (m.0, m.1, m.2, (a.words m.0).0 m.3, (power_words q p a k m.1).0 m.4),
  λ m. (m.0, m.1, m.2, (a.words m.0).1 m.3, (power_words q p a k m.1).1 m.4),
)

-- a repetition
pub alike_repetition : (min : ℕ) (max : Option ℕ) (greedy : Bool) (q p : Pattern) → IsAlike q p
    → IsAlike (Pattern.repetition min max greedy q) (Pattern.repetition min max greedy p)
alike_repetition min max greedy q p a = record {
  words = λ w. (
    λ m. (m.0, m.1, (power_words q p a m.0 w).0 m.2),
    λ m. (m.0, m.1, (power_words q p a m.0 w).1 m.2),
  );
  refused = λ full. rw (a.refused full.1) refl;
}

-- a group without a name
pub alike_number : (q p : Pattern) → IsAlike q p → IsAlike (Pattern.capture None q) (Pattern.capture None p)
alike_number q p a = record { words = λ w. a.words w; refused = λ full. a.refused full.1 }

-- a group whose name is written
pub alike_name : (name : List ℕ) (q p : Pattern) → IsAlike q p
    → IsAlike (Pattern.capture (Some name) q) (Pattern.capture (Some name) p)
alike_name name q p a = record { words = λ w. a.words w; refused = λ full. refl }

-- a group whose name can't be written
pub alike_unnamed : (name : List ℕ) (q p : Pattern) → is_group_name name ≡ false → IsAlike q p
    → IsAlike (Pattern.capture None q) (Pattern.capture (Some name) p)
alike_unnamed name q p unwritten a = record {
  words = λ w. a.words w;
  refused = λ full. absurd (true≢false (sym full.0 ∙ unwritten));
}

-- a pattern as itself
pub alike_itself : (p : Pattern) → IsAlike p p
alike_itself p = record { words = λ w. (λ m. m, λ m. m); refused = λ full. refl }

-- the pattern that matches this one character
abbrev pub letter : ℕ → Pattern
letter c = Pattern.literal (c ∷ [])

-- the characters of a word one after another
pub alike_literal : (cs : List ℕ) → IsAlike (concat_all (map letter cs)) (Pattern.literal cs)
alike_literal [] = record { words = λ w. (λ m. m, λ m. m); refused = λ full. refl }
alike_literal (c ∷ cs) =
    let rest = alike_literal cs in
    record {
      words = λ w. (
        λ m. m.2 ∙ ap (λ u. u ++ m.1) m.3 ∙ ap (λ v. c ∷ v) ((rest.words m.1).0 m.4),
        λ e. (c ∷ [], cs, e, refl, (rest.words cs).1 refl),
      );
      refused = λ full. rest.refused tt;
    }

-- a class
pub alike_class : (rs : List Range) → HaveScalarEnds rs → IsAlike (Pattern.class (read_set rs)) (Pattern.class rs)
alike_class rs h = record {
  words = λ w. (
    λ m. (m.0, m.1, (read_members rs m.0 h).0 m.2),
    λ m. (m.0, m.1, (read_members rs m.0 h).1 m.2),
  );
  refused = λ full. refl;
}

no_count : (min k : ℕ) (max : Option ℕ) → bounds_fall min max ≡ true → min ≤ k → IfSome max (λ m. k ≤ m) → ⊥
no_count min k None falls low high = absurd (cc)
no_count min k (Some m) falls low high = let less : m < min = grind (arith, nat_tests) in omega (arith, high)

-- a repetition whose bounds fall
pub alike_falling : (min : ℕ) (max : Option ℕ) (greedy : Bool) (p : Pattern) → bounds_fall min max ≡ true
    → IsAlike (Pattern.class (read_set [])) (Pattern.repetition min max greedy p)
alike_falling min max greedy p falls = record {
  words = λ w. (
    λ m. absurd (no_member m.0 ((read_members [] m.0 tt).0 m.2)),
    λ m. absurd (no_count min m.0 max falls m.1.0 m.1.1),
  );
  refused = λ full. absurd (true≢false (sym falls ∙ full.0));
}
