-- The leveled grammar has the written one's expansion under the names of the levels; for the law of what levels keep.
use Rattle.std.specs.Str.{bytes_eq}
use Rattle.std.proofs.Common.{◌≡◌, ℕ, zero, suc, [], ◌∷◌, refl, ap, sym, ◌∙◌, subst, cond, Bool, true, false}
use Rattle.std.proofs.Common.{inl, inr, length}
use Rattle.std.specs.Prelude.{Option, Some, None, map, ◌↔◌}
use Rattle.lalrpop_grammar_symbols.specs.Symbols.{Text, Op, Closed, Closeds, closed_list, syms}
use Rattle.lalrpop_grammar.specs.WrittenGrammar.{Origin, Rule, Grammar, rules_of}
use Rattle.lalrpop_grammar_language.specs.Among.{Among}
use Rattle.lalrpop_grammar_language.specs.Enabled.{EnabledGrammar, EnabledRule, Choice, IsRule}
use Rattle.lalrpop_grammar_language.specs.Levels.{Rank, loosest, has_levels, ranked_choices, allowed_level}
use Rattle.lalrpop_grammar_language.specs.Closing.{occurrences_in, right_side}
use Rattle.lalrpop_grammar_language.specs.Admitting.{bind}
use Rattle.lalrpop_grammar_language.specs.Expansion.{GrammarSymbol, Nonterminal, RightSide, grammar_symbol, Produces, HasLevel, IsRoot}
use Rattle.lalrpop_grammar_language.specs.Expansion.{IsReachedIn, InExpansion, ByAlternative}
use Rattle.lalrpop_grammar_language.proofs.PlaceLemmas.{among_map, same_text-eq}
use Rattle.lalrpop_norm_theory.specs.Between.{rule_between}
use Rattle.lalrpop_norm_theory.specs.Same.{rename_symbol, rename_side, SameExpansion}
use Rattle.lalrpop_norm_theory.specs.Inlined.{IsInlined, SameInlined}
use Rattle.lalrpop_grammar_language.proofs.AmongLemmas.{map_among}
use Rattle.lalrpop_norm_theory.proofs.ExpansionListLemmas.{rule_there}
use Rattle.lalrpop_norm_theory.proofs.LevelLemmas.{no_levels, no_loosest}
use Rattle.lalrpop_norm_theory.specs.LevelRules.{level_name, by_level_names, all_by_level_names}
use Rattle.lalrpop_norm_theory.specs.LevelLaws.{nonterminal_by_level, IsLevelable, TellsOwnRules}
use Rattle.lalrpop_norm_theory.proofs.LevelOrderLemmas.{one_rule}
use Rattle.lalrpop_norm_theory.proofs.LeveledRuleLemmas.{rule_of_key, rule_key, key_rule, written_rule}
use Rattle.lalrpop_norm_theory.proofs.LevelAttrLemmas.{flat_key, key_parameters, key_inlined}
use Rattle.lalrpop_norm_theory.proofs.RightLevelLemmas.{has_loosest, IsRankOf, rank_of, allowed_present, tighter_present}
use Rattle.lalrpop_norm_theory.proofs.LevelNameLemmas.{before, after, own_rule, loosest_there, loosest_name, rule_stays}
use Rattle.lalrpop_norm_theory.proofs.LevelShapeLemmas.{public_as_written, leveled_flat}
use Rattle.lalrpop_norm_theory.proofs.LevelClosingLemmas.{scope_before}
use Rattle.lalrpop_norm_theory.proofs.LevelBindingLemmas.{renamed_list}
use Rattle.lalrpop_norm_theory.proofs.WellLeveledLemmas.{IsWell, AreWell, IsWellOrFaulty, IsWellScope, well_listed}
use Rattle.lalrpop_norm_theory.proofs.WellLeveledLemmas.{part_well, close_list_well, values_well, well_apart}
use Rattle.lalrpop_norm_theory.proofs.LevelFitLemmas.{IsCallOf}
use Rattle.lalrpop_norm_theory.proofs.LevelProductionLemmas.{nt, symbol-by_level, side-by_level, MadeThere, MadeFrom}
use Rattle.lalrpop_norm_theory.proofs.LevelProductionLemmas.{call_forth, call_back}

-- nonterminals of the expansion are well

abbrev IsWellNonterminal : EnabledGrammar → Nonterminal → Type 0
IsWellNonterminal g (Nonterminal.start n) = Unit {0}
IsWellNonterminal g (Nonterminal.closed x) = IsWellOrFaulty g x

-- in the scope of an alternative each call has a level that is there, and arguments that are sound are well
pub well_scope : (finds : Text → Text → Option Bool) (g : Grammar) (f : Text → ℕ → Text) → IsLevelable finds g f →
    (r : Rule) →
    Among (rules_of g.items) r → (args : Closeds) → AreWell (before finds g) args → (c : Choice) (rank : Option Rank) →
    IsRankOf (rule_between r) rank → IsWellScope (scope_before finds g r args c rank)
well_scope finds g f w r i args well c rank ranked = record {
  levels = λ k n m is. at_call k n m is (bytes_eq n r.name) refl;
  values = λ n x e h. values_well (before finds g) r.parameters args well n x e h;
}
  where
    count : ℕ
    count = occurrences_in (bind (rule_between r) args) r.name (syms c.expr)

    at_call : (k : ℕ) (n : Text) (m : EnabledRule) → IsRule (before finds g) n m → (b : Bool) → bytes_eq n r.name ≡ b →
        HasLevel m (cond b (allowed_level (rule_between r) rank count k) (loosest m))
    at_call k n m is true e =
        let own : IsRule (before finds g) n (rule_between r) =
        subst (λ t. IsRule (before finds g) t (rule_between r)) (sym (same_text-eq n r.name e)) (own_rule finds g f w r i) in
        subst (λ a. HasLevel a (allowed_level (rule_between r) rank count k)) (one_rule (before finds g) n (rule_between r) m own is)
        (allowed_present (rule_between r) (has_loosest g w.right r i) rank ranked count k)
    at_call k n m is false e = loosest_there finds g f w n m is

-- a call by the written rule
pub call_of : (finds : Text → Text → Option Bool) (g : Grammar) (n : Text) (args : Closeds) (level : Option ℕ) →
    IsWell (before finds g) (Closed.call n args level) → (r : Rule) × IsCallOf finds g r args level × (r.name ≡ n)
call_of finds g n args level w =
    let u = written_rule finds g n w.0.rule w.0.is_rule in (
      u.0,
      record {
        among = u.1;
        many = w.0.arguments ∙ ap (λ e. length e.parameters) (sym u.2);
        well = w.1;
        has_level = subst (λ e. HasLevel e level) (sym u.2) w.0.has_level;
      },
      u.3,
    )

-- a call of a written rule with well arguments, as many as it has parameters, at a level of the rule, is well
pub well_call : (finds : Text → Text → Option Bool) (g : Grammar) (f : Text → ℕ → Text) → IsLevelable finds g f →
    (r : Rule) (args : Closeds)
    (level : Option ℕ) → IsCallOf finds g r args level → IsWell (before finds g) (Closed.call r.name args level)
well_call finds g f w r args level call = (
  record {
    rule = rule_between r;
    is_rule = own_rule finds g f w r call.among;
    has_level = call.has_level;
    arguments = call.many;
  },
  call.well,
)

call_produces : (finds : Text → Text → Option Bool) (g : Grammar) (f : Text → ℕ → Text) → IsLevelable finds g f → (r : Rule)
    (args : Closeds) (level : Option ℕ) → IsCallOf finds g r args level → (o : Origin) (side : RightSide) →
    Produces (before finds g) (Nonterminal.closed (Closed.call r.name args level)) o side → (y : Closed) → Among side (nt y) →
    IsWellOrFaulty (before finds g) y
call_produces finds g f w r args level call o side (inl m) y i =
    let own = own_rule finds g f w r call.among in
    let same : m.rule ≡ rule_between r = one_rule (before finds g) r.name m.rule (rule_between r) m.fits.rule own in
    let there = subst (λ e. Among (ranked_choices e) m.choice) same m.fits.written in
    let side_is : side ≡ map grammar_symbol (right_side (before finds g) (rule_between r) (bind (rule_between r) args) m.choice) =
    m.side_is ∙ ap (λ e. map grammar_symbol (right_side (before finds g) e (bind e args) m.choice)) same in
    part_well (before finds g) (right_side (before finds g) (rule_between r) (bind (rule_between r) args) m.choice)
    (close_list_well (scope_before finds g r args m.choice.0 m.choice.1)
    (well_scope finds g f w r call.among args call.well m.choice.0 m.choice.1 (rank_of (rule_between r) m.choice.0 m.choice.1 there))
    0 m.choice.0.expr) y (subst (λ s. Among s (nt y)) side_is i)
call_produces finds g f w r args level call o side (inr m) y i = go (subst (λ s. Among s (nt y)) m.side_is i)
  where
    own : IsRule (before finds g) r.name (rule_between r)
    own = own_rule finds g f w r call.among

    tighter_call : IsCallOf finds g r args (Some m.to)
    tighter_call = record {
      among = call.among;
      many = call.many;
      well = call.well;
      has_level = subst (λ e. HasLevel e (Some m.to)) (one_rule (before finds g) r.name m.rule (rule_between r) m.is_rule own)
          (tighter_present m.rule m.from m.to m.to_is);
    }

    go : Among (nt (Closed.call r.name args (Some m.to)) ∷ []) (nt y) → IsWellOrFaulty (before finds g) y
    go (inl e) =
        let same : Closed.call r.name args (Some m.to) ≡ y = cc in
        inr (subst (IsWell (before finds g)) same (well_call finds g f w r args (Some m.to) tighter_call))
    go (inr k) = absurd k

-- one symbol, well or in a group
one_well : (g : EnabledGrammar) (x : Closed) → IsWell g x → (rest : RightSide) →
    ((y : Closed) → Among rest (nt y) → IsWellOrFaulty g y) →
    (y : Closed) → Among (grammar_symbol x ∷ rest) (nt y) → IsWellOrFaulty g y
one_well g x w rest others y (inl e) = part_well g (x ∷ []) (λ z i. only z i) y (inl e)
  where
    only : (z : Closed) → Among (x ∷ []) z → IsWellOrFaulty g z
    only z (inl f) = inr (subst (IsWell g) f w)
    only z (inr k) = absurd k
one_well g x w rest others y (inr i) = others y i

none_well : (g : EnabledGrammar) (y : Closed) → Among [] (nt y) → IsWellOrFaulty g y
none_well g y i = absurd i

in_side : (side other : RightSide) (y : Closed) → side ≡ other → Among side (nt y) → Among other (nt y)
in_side side other y e i = subst (λ s. Among s (nt y)) e i

-- what a well nonterminal produces is well
produced_well : (finds : Text → Text → Option Bool) (g : Grammar) (f : Text → ℕ → Text) → IsLevelable finds g f →
    (x : Closed) →
    IsWell (before finds g) x → (o : Origin) (side : RightSide) → Produces (before finds g) (Nonterminal.closed x) o side →
    (y : Closed) →
    Among side (nt y) → IsWellOrFaulty (before finds g) y
produced_well finds g f w (Closed.terminal t) h o side m y i = absurd m
produced_well finds g f w (Closed.call n args level) h o side m y i =
    let u = call_of finds g n args level h in
    call_produces finds g f w u.0 args level u.1 o side
    (subst (λ t. Produces (before finds g) (Nonterminal.closed (Closed.call t args level)) o side) (sym u.2) m) y i
produced_well finds g f w (Closed.repeat Op.plus x) h o side (inl m) y i =
    one_well (before finds g) x h [] (none_well (before finds g)) y (in_side side (grammar_symbol x ∷ []) y m.1 i)
produced_well finds g f w (Closed.repeat Op.plus x) h o side (inr m) y i =
    one_well (before finds g) (Closed.repeat Op.plus x) h (grammar_symbol x ∷ [])
    (one_well (before finds g) x h [] (none_well (before finds g))) y
    (in_side side (nt (Closed.repeat Op.plus x) ∷ grammar_symbol x ∷ []) y m.1 i)
produced_well finds g f w (Closed.repeat Op.star x) h o side (inl m) y i = absurd (in_side side [] y m.1 i)
produced_well finds g f w (Closed.repeat Op.star x) h o side (inr m) y i =
    one_well (before finds g) (Closed.repeat Op.plus x) h [] (none_well (before finds g)) y
    (in_side side (nt (Closed.repeat Op.plus x) ∷ []) y m.1 i)
produced_well finds g f w (Closed.repeat Op.question x) h o side (inl m) y i = absurd (in_side side [] y m.1 i)
produced_well finds g f w (Closed.repeat Op.question x) h o side (inr m) y i =
    one_well (before finds g) x h [] (none_well (before finds g)) y (in_side side (grammar_symbol x ∷ []) y m.1 i)
produced_well finds g f w (Closed.group xs) h o side m y i =
    part_well (before finds g) (closed_list xs) (λ z j. inr (well_listed (before finds g) xs h z j)) y
    (in_side side (map grammar_symbol (closed_list xs)) y m.1 i)
produced_well finds g f w (Closed.choose x) h o side m y i = absurd m
produced_well finds g f w (Closed.name a n x) h o side m y i = absurd m
produced_well finds g f w Closed.lookahead h o side m y i = absurd (in_side side [] y m.1 i)
produced_well finds g f w Closed.lookbehind h o side m y i = absurd (in_side side [] y m.1 i)
produced_well finds g f w Closed.faulty h o side m y i = absurd m

faulty_produces : (g : EnabledGrammar) (x : Closed) (o : Origin) (side : RightSide) → x ≡ Closed.faulty →
    Produces g (Nonterminal.closed x) o side → ⊥
faulty_produces g x o side e m = subst (λ z. Produces g (Nonterminal.closed z) o side) e m

well_root : (finds : Text → Text → Option Bool) (g : Grammar) (r : EnabledRule) (level : Option ℕ) →
    IsRule (before finds g) r.name r →
    r.parameters ≡ [] → HasLevel r level → IsWell (before finds g) (Closed.call r.name Closeds.none level)
well_root finds g r level is ps h =
    (record { rule = r; is_rule = is; has_level = h; arguments = sym (ap length ps) }, tt)

-- each nonterminal of the expansion is well
reached_well : (finds : Text → Text → Option Bool) (g : Grammar) (f : Text → ℕ → Text) → IsLevelable finds g f →
    (n : ℕ) (x : Nonterminal) →
    IsReachedIn (before finds g) n x → IsWellNonterminal (before finds g) x
reached_well finds g f w n (Nonterminal.start m) i = tt
reached_well finds g f w zero (Nonterminal.closed x) (inl b) = let e : Nonterminal.closed x ≡ Nonterminal.start b.0 = b.2 in cc
reached_well finds g f w zero (Nonterminal.closed x) (inr b) =
    let e : Nonterminal.closed x ≡ Nonterminal.closed (Closed.call b.0.name Closeds.none b.1) = b.5 in
    let same : Closed.call b.0.name Closeds.none b.1 ≡ x = cc in
    inr (subst (IsWell (before finds g)) same (well_root finds g b.0 b.1 b.2 b.3 b.4))
reached_well finds g f w (suc n) (Nonterminal.closed x) (Nonterminal.start m, o, side, r, k, i) =
    go (subst (λ s. Among s (nt x)) k.5 i)
  where
    go : Among (nt (Closed.call m Closeds.none (loosest k.0)) ∷ []) (nt x) → IsWellOrFaulty (before finds g) x
    go (inl e) =
        let same : Closed.call m Closeds.none (loosest k.0) ≡ x = cc in
        inr (subst (IsWell (before finds g)) same (
          record { rule = k.0; is_rule = k.1; has_level = loosest_there finds g f w m k.0 k.1; arguments = sym (ap length k.2) },
          tt,
        ))
    go (inr j) = absurd j
reached_well finds g f w (suc n) (Nonterminal.closed x) (Nonterminal.closed y, o, side, r, k, i) =
    go (reached_well finds g f w n (Nonterminal.closed y) r)
  where
    go : IsWellOrFaulty (before finds g) y → IsWellOrFaulty (before finds g) x
    go (inl e) = absurd (faulty_produces (before finds g) y o side e k)
    go (inr h) = produced_well finds g f w y h o side k x i

-- each closed symbol in the expansion is well, or faulty
pub well_in : (finds : Text → Text → Option Bool) (g : Grammar) (f : Text → ℕ → Text) → IsLevelable finds g f →
    (x : Nonterminal) →
    InExpansion (before finds g) x → IsWellNonterminal (before finds g) x
well_in finds g f w x i = reached_well finds g f w i.0 x i.1

-- productions there

kept_repeat : (f : Text → ℕ → Text) (x : Closed) (side : RightSide) → side ≡ grammar_symbol x ∷ [] →
    rename_side (nonterminal_by_level f) side ≡ grammar_symbol (by_level_names f x) ∷ []
kept_repeat f x side e = ap (rename_side (nonterminal_by_level f)) e ∙ ap (λ p. p ∷ []) (sym (symbol-by_level f x))

kept_more : (f : Text → ℕ → Text) (x : Closed) (side : RightSide) →
    side ≡ nt (Closed.repeat Op.plus x) ∷ grammar_symbol x ∷ [] →
    rename_side (nonterminal_by_level f) side
    ≡ nt (Closed.repeat Op.plus (by_level_names f x)) ∷ grammar_symbol (by_level_names f x) ∷ []
kept_more f x side e =
    ap (rename_side (nonterminal_by_level f)) e
    ∙ ap (λ p. nt (Closed.repeat Op.plus (by_level_names f x)) ∷ p ∷ []) (sym (symbol-by_level f x))

kept_group : (f : Text → ℕ → Text) (xs : Closeds) →
    map grammar_symbol (closed_list (all_by_level_names f xs)) ≡ rename_side (nonterminal_by_level f)
    (map grammar_symbol (closed_list xs))
kept_group f xs = ap (map grammar_symbol) (renamed_list f xs) ∙ side-by_level f (closed_list xs)

closed_forth : (finds : Text → Text → Option Bool) (g : Grammar) (f : Text → ℕ → Text) → IsLevelable finds g f →
    (x : Closed) → IsWell (before finds g) x → (o : Origin) (side : RightSide) →
    Produces (before finds g) (Nonterminal.closed x) o side →
    MadeThere finds g f (Nonterminal.closed x) o side
closed_forth finds g f w (Closed.terminal t) h o side m = absurd m
closed_forth finds g f w (Closed.call n args level) h o side m =
    let u = call_of finds g n args level h in
    subst (λ t. MadeThere finds g f (Nonterminal.closed (Closed.call t args level)) o side) u.2
    (call_forth finds g f w u.0 args level u.1 o side
    (subst (λ t. Produces (before finds g) (Nonterminal.closed (Closed.call t args level)) o side) (sym u.2) m))
closed_forth finds g f w (Closed.repeat Op.plus x) h o side (inl m) = (o, inl (m.0, kept_repeat f x side m.1), λ tells. refl)
closed_forth finds g f w (Closed.repeat Op.plus x) h o side (inr m) = (o, inr (m.0, kept_more f x side m.1), λ tells. refl)
closed_forth finds g f w (Closed.repeat Op.star x) h o side (inl m) =
    (o, inl (m.0, ap (rename_side (nonterminal_by_level f)) m.1), λ tells. refl)
closed_forth finds g f w (Closed.repeat Op.star x) h o side (inr m) =
    (o, inr (m.0, ap (rename_side (nonterminal_by_level f)) m.1), λ tells. refl)
closed_forth finds g f w (Closed.repeat Op.question x) h o side (inl m) =
    (o, inl (m.0, ap (rename_side (nonterminal_by_level f)) m.1), λ tells. refl)
closed_forth finds g f w (Closed.repeat Op.question x) h o side (inr m) = (o, inr (m.0, kept_repeat f x side m.1), λ tells. refl)
closed_forth finds g f w (Closed.group xs) h o side m =
    (o, (m.0, ap (rename_side (nonterminal_by_level f)) m.1 ∙ sym (kept_group f xs)), λ tells. refl)
closed_forth finds g f w (Closed.choose x) h o side m = absurd m
closed_forth finds g f w (Closed.name a n x) h o side m = absurd m
closed_forth finds g f w Closed.lookahead h o side m = (o, (m.0, ap (rename_side (nonterminal_by_level f)) m.1), λ tells. refl)
closed_forth finds g f w Closed.lookbehind h o side m = (o, (m.0, ap (rename_side (nonterminal_by_level f)) m.1), λ tells. refl)
closed_forth finds g f w Closed.faulty h o side m = absurd m

-- a start stays a start
start_forth : (finds : Text → Text → Option Bool) (g : Grammar) (f : Text → ℕ → Text) → IsLevelable finds g f →
    (n : Text) (o : Origin)
    (side : RightSide) → Produces (before finds g) (Nonterminal.start n) o side →
    MadeThere finds g f (Nonterminal.start n) o side
start_forth finds g f w n o side m =
    let q = rule_stays finds g f w n m.0 m.1 in
    let there = rule_there (after finds g f) n q.0 q.1 in
    let own = rule_there (before finds g) n m.0 m.1 in (
      o,
      (
        q.0,
        q.1,
        q.2 ∙ m.2,
        (public_as_written finds g f w q.0 there.0).1 (m.0, own.0, own.1 ∙ sym there.1, m.3),
        m.4,
        ap (rename_side (nonterminal_by_level f)) m.5
            ∙ ap (λ t. nt (Closed.call t Closeds.none None) ∷ []) (loosest_name finds g f w n m.0 m.1)
            ∙ ap (λ l. nt (Closed.call n Closeds.none l) ∷ []) (sym (no_loosest q.0 q.3)),
      ),
      λ tells. refl,
    )

start_back : (finds : Text → Text → Option Bool) (g : Grammar) (f : Text → ℕ → Text) → IsLevelable finds g f →
    (n : Text) (o : Origin)
    (side : RightSide) → Produces (after finds g f) (Nonterminal.start n) o side → MadeFrom finds g f (Nonterminal.start n) o side
start_back finds g f w n o side m =
    let there = rule_there (after finds g f) n m.0 m.1 in
    let u = (public_as_written finds g f w m.0 there.0).0 m.3 in
    let own : IsRule (before finds g) n u.0 =
    subst (λ t. IsRule (before finds g) t u.0) (u.2 ∙ there.1) (w.resolved.rules u.0 u.1) in
    let q = rule_stays finds g f w n u.0 own in
    let same : q.0 ≡ m.0 = one_rule (after finds g f) n q.0 m.0 q.1 m.1 in (
      o,
      nt (Closed.call n Closeds.none (loosest u.0)) ∷ [],
      (u.0, own, sym q.2 ∙ ap (λ e. e.parameters) same ∙ m.2, u.3, m.4, refl),
      m.5 ∙ ap (λ l. nt (Closed.call n Closeds.none l) ∷ []) (ap loosest (sym same) ∙ no_loosest q.0 q.3)
          ∙ ap (λ t. nt (Closed.call t Closeds.none None) ∷ []) (sym (loosest_name finds g f w n u.0 own)),
      λ tells. refl,
    )

-- and there are no others

back_repeat : (f : Text → ℕ → Text) (x : Closed) (side : RightSide) → side ≡ grammar_symbol (by_level_names f x) ∷ [] →
    side ≡ rename_side (nonterminal_by_level f) (grammar_symbol x ∷ [])
back_repeat f x side e = e ∙ ap (λ p. p ∷ []) (symbol-by_level f x)

closed_back : (finds : Text → Text → Option Bool) (g : Grammar) (f : Text → ℕ → Text) → IsLevelable finds g f →
    (x : Closed) → IsWell (before finds g) x → (o : Origin) (side : RightSide) →
    Produces (after finds g f) (Nonterminal.closed (by_level_names f x)) o side → MadeFrom finds g f (Nonterminal.closed x) o side
closed_back finds g f w (Closed.terminal t) h o side m = absurd m
closed_back finds g f w (Closed.call n args level) h o side (inl m) =
    let u = call_of finds g n args level h in
    subst (λ t. MadeFrom finds g f (Nonterminal.closed (Closed.call t args level)) o side) u.2
    (call_back finds g f w u.0 args level u.1 o side
    (subst (λ t. ByAlternative (after finds g f) (level_name f t level) (all_by_level_names f args) None o side) (sym u.2) m))
closed_back finds g f w (Closed.call n args level) h o side (inr m) = let e : None ≡ Some m.from = m.from_is in cc
closed_back finds g f w (Closed.repeat Op.plus x) h o side (inl m) =
    (o, grammar_symbol x ∷ [], inl (m.0, refl), back_repeat f x side m.1, λ tells. refl)
closed_back finds g f w (Closed.repeat Op.plus x) h o side (inr m) = (
  o,
  nt (Closed.repeat Op.plus x) ∷ grammar_symbol x ∷ [],
  inr (m.0, refl),
  m.1 ∙ ap (λ p. nt (Closed.repeat Op.plus (by_level_names f x)) ∷ p ∷ []) (symbol-by_level f x),
  λ tells. refl,
)
closed_back finds g f w (Closed.repeat Op.star x) h o side (inl m) = (o, [], inl (m.0, refl), m.1, λ tells. refl)
closed_back finds g f w (Closed.repeat Op.star x) h o side (inr m) =
    (o, nt (Closed.repeat Op.plus x) ∷ [], inr (m.0, refl), m.1, λ tells. refl)
closed_back finds g f w (Closed.repeat Op.question x) h o side (inl m) = (o, [], inl (m.0, refl), m.1, λ tells. refl)
closed_back finds g f w (Closed.repeat Op.question x) h o side (inr m) =
    (o, grammar_symbol x ∷ [], inr (m.0, refl), back_repeat f x side m.1, λ tells. refl)
closed_back finds g f w (Closed.group xs) h o side m =
    (o, map grammar_symbol (closed_list xs), (m.0, refl), m.1 ∙ kept_group f xs, λ tells. refl)
closed_back finds g f w (Closed.choose x) h o side m = absurd m
closed_back finds g f w (Closed.name a n x) h o side m = absurd m
closed_back finds g f w Closed.lookahead h o side m = (o, [], (m.0, refl), m.1, λ tells. refl)
closed_back finds g f w Closed.lookbehind h o side m = (o, [], (m.0, refl), m.1, λ tells. refl)
closed_back finds g f w Closed.faulty h o side m = absurd m

-- both, of nonterminals that are well

-- each production of a well nonterminal is one in the leveled grammar, under the names of the levels
pub forth : (finds : Text → Text → Option Bool) (g : Grammar) (f : Text → ℕ → Text) → IsLevelable finds g f →
    (x : Nonterminal) → IsWellNonterminal (before finds g) x → (o : Origin) (side : RightSide) →
    Produces (before finds g) x o side →
    MadeThere finds g f x o side
forth finds g f w (Nonterminal.start n) h o side m = start_forth finds g f w n o side m
forth finds g f w (Nonterminal.closed x) (inl e) o side m = absurd (faulty_produces (before finds g) x o side e m)
forth finds g f w (Nonterminal.closed x) (inr h) o side m = closed_forth finds g f w x h o side m

-- each production of a well nonterminal in the leveled grammar comes from one of the grammar with levels
pub back : (finds : Text → Text → Option Bool) (g : Grammar) (f : Text → ℕ → Text) → IsLevelable finds g f →
    (x : Nonterminal) → IsWellNonterminal (before finds g) x → (o : Origin) (side : RightSide) →
    Produces (after finds g f) (nonterminal_by_level f x) o side → MadeFrom finds g f x o side
back finds g f w (Nonterminal.start n) h o side m = start_back finds g f w n o side m
back finds g f w (Nonterminal.closed x) (inl e) o side m =
    absurd (faulty_produces (after finds g f) (by_level_names f x) o side (ap (by_level_names f) e) m)
back finds g f w (Nonterminal.closed x) (inr h) o side m = closed_back finds g f w x h o side m

-- roots

by_start : (g : EnabledGrammar) (n : Text) (o : Origin) (side : RightSide) → Produces g (Nonterminal.start n) o side →
    Produces g (Nonterminal.start n) Origin.start side
by_start g n o side m = (m.0, m.1, m.2, m.3, refl, m.5)

-- each root is one in the leveled grammar, under the names of the levels
pub root_forth : (finds : Text → Text → Option Bool) (g : Grammar) (f : Text → ℕ → Text) → IsLevelable finds g f →
    (x : Nonterminal) →
    IsRoot (before finds g) x → IsRoot (after finds g f) (nonterminal_by_level f x)
root_forth finds g f w x (inl b) =
    let u = start_forth finds g f w b.0 Origin.start b.1 b.3 in
    let side = rename_side (nonterminal_by_level f) b.1 in
    inl (b.0, side, ap (nonterminal_by_level f) b.2, by_start (after finds g f) b.0 u.0 side u.1)
root_forth finds g f w x (inr b) =
    let u = written_rule finds g b.0.name b.0 b.2 in
    let has : HasLevel (rule_between u.0) b.1 = subst (λ e. HasLevel e b.1) (sym u.2) b.4 in
    let q = rule_between (rule_of_key f u.0 b.1) in
    let named : IsRule (after finds g f) (level_name f u.0.name b.1) q = key_rule finds g f w.names u.0 b.1 u.1 has in
    let name_is : q.name ≡ level_name f u.0.name b.1 = (rule_there (after finds g f) (level_name f u.0.name b.1) q named).1 in
    inr (
      q,
      None,
      subst (λ t. IsRule (after finds g f) t q) (sym name_is) named,
      key_parameters f u.0 b.1 ∙ ap (λ e. e.parameters) u.2 ∙ b.3,
      flat_key f u.0 b.1 has,
      ap (nonterminal_by_level f) b.5
          ∙ ap (λ t. Nonterminal.closed (Closed.call (level_name f t b.1) Closeds.none None)) (sym u.3)
          ∙ ap (λ t. Nonterminal.closed (Closed.call t Closeds.none None)) (sym name_is),
    )

-- the nonterminal is that of one in the expansion of the grammar with levels, under the names of the levels
abbrev pub From : (Text → Text → Option Bool) → Grammar → (Text → ℕ → Text) → Nonterminal → Type 0
From finds g f y = (x : Nonterminal) × InExpansion (before finds g) x × (y ≡ nonterminal_by_level f x)

no_level_there : (r : EnabledRule) (level : Option ℕ) → has_levels r ≡ false → HasLevel r level → level ≡ None
no_level_there r None e h = refl
no_level_there r (Some l) e h = absurd (subst (λ ls. Among ls l) (no_levels r e) h)

-- each root of the leveled grammar is that of one of the grammar with levels, under the names of the levels
pub root_back : (finds : Text → Text → Option Bool) (g : Grammar) (f : Text → ℕ → Text) → IsLevelable finds g f →
    (y : Nonterminal) →
    IsRoot (after finds g f) y → (x : Nonterminal) × IsRoot (before finds g) x × (y ≡ nonterminal_by_level f x)
root_back finds g f w y (inl b) =
    let u = start_back finds g f w b.0 Origin.start b.1 b.3 in
    (Nonterminal.start b.0, inl (b.0, u.1, refl, by_start (before finds g) b.0 u.0 u.1 u.2), b.2)
root_back finds g f w y (inr b) =
    let there = rule_there (after finds g f) b.0.name b.0 b.2 in
    let u = rule_key finds g f b.0 there.0 in
    let r = u.2.rule in
    let same : rule_between (rule_of_key f r u.2.level) ≡ b.0 = ap rule_between u.2.is_it ∙ u.1 in
    let flat : has_levels b.0 ≡ false = leveled_flat finds g f b.0 there.0 in
    let lev : b.1 ≡ None = no_level_there b.0 b.1 flat b.4 in
    let named = key_rule finds g f w.names r u.2.level u.2.among u.2.has_level in
    let name_is : b.0.name ≡ level_name f r.name u.2.level =
    ap (λ e. e.name) (sym same)
    ∙ (rule_there (after finds g f) (level_name f r.name u.2.level) (rule_between (rule_of_key f r u.2.level)) named).1 in (
      Nonterminal.closed (Closed.call r.name Closeds.none u.2.level),
      inr (
        rule_between r,
        u.2.level,
        own_rule finds g f w r u.2.among,
        sym (key_parameters f r u.2.level) ∙ ap (λ e. e.parameters) same ∙ b.3,
        u.2.has_level,
        refl,
      ),
      b.5 ∙ ap (λ l. Nonterminal.closed (Closed.call b.0.name Closeds.none l)) lev
          ∙ ap (λ t. Nonterminal.closed (Closed.call t Closeds.none None)) name_is,
    )

-- what is reached

-- a nonterminal of the expansion is one of the leveled grammar's
pub reached_there : (finds : Text → Text → Option Bool) (g : Grammar) (f : Text → ℕ → Text) → IsLevelable finds g f →
    (n : ℕ) (x : Nonterminal) → IsReachedIn (before finds g) n x → IsReachedIn (after finds g f) n (nonterminal_by_level f x)
reached_there finds g f w zero x i = root_forth finds g f w x i
reached_there finds g f w (suc n) x (y, o, side, r, m, i) =
    let u = forth finds g f w y (reached_well finds g f w n y r) o side m in (
      nonterminal_by_level f y,
      u.0,
      rename_side (nonterminal_by_level f) side,
      reached_there finds g f w n y r,
      u.1,
      map_among (rename_symbol (nonterminal_by_level f)) side (GrammarSymbol.nonterminal x) i,
    )

-- and there is no other
pub reached_from : (finds : Text → Text → Option Bool) (g : Grammar) (f : Text → ℕ → Text) → IsLevelable finds g f →
    (n : ℕ) (y : Nonterminal) → IsReachedIn (after finds g f) n y → From finds g f y
reached_from finds g f w zero y i = let b = root_back finds g f w y i in (b.0, (zero, b.1), b.2)
reached_from finds g f w (suc n) y (z, o, side, r, m, i) =
    let p = reached_from finds g f w n z r in
    let b = back finds g f w p.0 (well_in finds g f w p.0 p.1) o side (subst (λ a. Produces (after finds g f) a o side) p.2 m) in
    let s = among_map (rename_symbol (nonterminal_by_level f)) b.1 (GrammarSymbol.nonterminal y)
    (subst (λ l. Among l (GrammarSymbol.nonterminal y)) b.3 i) in
    of_symbol p.0 p.1 b.0 b.1 b.2 s.0 s.1 s.2
  where
    of_symbol : (x : Nonterminal) → InExpansion (before finds g) x → (c : Origin) (from : RightSide) →
        Produces (before finds g) x c from → (q : GrammarSymbol Nonterminal) → Among from q →
        rename_symbol (nonterminal_by_level f) q ≡ GrammarSymbol.nonterminal y → From finds g f y
    of_symbol x i c from m (GrammarSymbol.terminal t) j e = cc
    of_symbol x i c from m (GrammarSymbol.nonterminal v) j e =
        let same : nonterminal_by_level f v ≡ y = cc in
        (v, (suc i.0, (x, c, from, i.1, m, j)), sym same)

nonterminals_apart : (finds : Text → Text → Option Bool) (g : Grammar) (f : Text → ℕ → Text) → IsLevelable finds g f →
    (x y : Nonterminal) →
    IsWellNonterminal (before finds g) x → IsWellNonterminal (before finds g) y →
    nonterminal_by_level f x ≡ nonterminal_by_level f y → x ≡ y
nonterminals_apart finds g f w (Nonterminal.start n) (Nonterminal.start m) i j e = e
nonterminals_apart finds g f w (Nonterminal.start n) (Nonterminal.closed y) i j e = cc
nonterminals_apart finds g f w (Nonterminal.closed x) (Nonterminal.start m) i j e = cc
nonterminals_apart finds g f w (Nonterminal.closed x) (Nonterminal.closed y) i j e =
    let same : by_level_names f x ≡ by_level_names f y = cc in ap Nonterminal.closed (well_apart finds g f w.names x y i j same)

-- the expansion is the same under the names of the levels
pub levels_keep : (finds : Text → Text → Option Bool) (g : Grammar) (f : Text → ℕ → Text) → IsLevelable finds g f →
    TellsOwnRules g →
    SameExpansion (before finds g) (after finds g f) (nonterminal_by_level f)
levels_keep finds g f w tells = record {
  apart = λ x y i j e. nonterminals_apart finds g f w x y (well_in finds g f w x i) (well_in finds g f w y j) e;
  starts = λ n. refl;
  there = λ x i. (i.0, reached_there finds g f w i.0 x i.1);
  no_other = λ y i. reached_from finds g f w i.0 y i.1;
  produces = λ x o side i m. let u = forth finds g f w x (well_in finds g f w x i) o side m in
      subst (λ p. Produces (after finds g f) (nonterminal_by_level f x) p (rename_side (nonterminal_by_level f) side)) (u.2 tells) u.1;
  produces_no_other = λ x o side i m. let u = back finds g f w x (well_in finds g f w x i) o side m in
      (u.1, subst (λ p. Produces (before finds g) x p u.1) (u.4 tells) u.2, u.3);
}

-- and so are the nonterminals that are inlined

inlined_alike : (finds : Text → Text → Option Bool) (g : Grammar) (f : Text → ℕ → Text) → IsLevelable finds g f →
    (x : Closed) →
    IsWell (before finds g) x →
    IsInlined (before finds g) (Nonterminal.closed x) ↔ IsInlined (after finds g f) (Nonterminal.closed (by_level_names f x))
inlined_alike finds g f w (Closed.terminal t) h = (λ a. a, λ a. a)
inlined_alike finds g f w (Closed.call n args level) h =
    let u = call_of finds g n args level h in
    let q = rule_between (rule_of_key f u.0 level) in
    let named : IsRule (after finds g f) (level_name f n level) q =
    subst (λ t. IsRule (after finds g f) (level_name f t level) q) u.2
    (key_rule finds g f w.names u.0 level u.1.among u.1.has_level) in
    let own : IsRule (before finds g) n (rule_between u.0) =
    subst (λ t. IsRule (before finds g) t (rule_between u.0)) u.2 (own_rule finds g f w u.0 u.1.among) in (
      λ a. (
        q,
        named,
        key_inlined f u.0 level ∙ ap (λ e. e.inlined) (one_rule (before finds g) n (rule_between u.0) a.0 own a.1)
            ∙ a.2,
      ),
      λ a. (
        rule_between u.0,
        own,
        sym (key_inlined f u.0 level) ∙ ap (λ e. e.inlined) (one_rule (after finds g f) (level_name f n level) q a.0 named a.1) ∙ a.2,
      ),
    )
inlined_alike finds g f w (Closed.repeat Op.plus x) h = (λ a. a, λ a. a)
inlined_alike finds g f w (Closed.repeat Op.star x) h = (λ a. a, λ a. a)
inlined_alike finds g f w (Closed.repeat Op.question x) h = (λ a. a, λ a. a)
inlined_alike finds g f w (Closed.group xs) h = (λ a. a, λ a. a)
inlined_alike finds g f w (Closed.choose x) h = (λ a. a, λ a. a)
inlined_alike finds g f w (Closed.name m n x) h = (λ a. a, λ a. a)
inlined_alike finds g f w Closed.lookahead h = (λ a. a, λ a. a)
inlined_alike finds g f w Closed.lookbehind h = (λ a. a, λ a. a)
inlined_alike finds g f w Closed.faulty h = absurd h

-- a nonterminal in the expansion is inlined just where it is in the leveled grammar, under the names of the levels
pub levels_inline_alike : (finds : Text → Text → Option Bool) (g : Grammar) (f : Text → ℕ → Text) → IsLevelable finds g f →
    SameInlined (before finds g) (after finds g f) (nonterminal_by_level f)
levels_inline_alike finds g f w (Nonterminal.start n) i = (λ a. a, λ a. a)
levels_inline_alike finds g f w (Nonterminal.closed x) i = go (well_in finds g f w (Nonterminal.closed x) i)
  where
    go : IsWellOrFaulty (before finds g) x →
        IsInlined (before finds g) (Nonterminal.closed x) ↔ IsInlined (after finds g f) (Nonterminal.closed (by_level_names f x))
    go (inl e) = (
      λ a. absurd (subst (λ z. IsInlined (before finds g) (Nonterminal.closed z)) e a),
      λ a. absurd (subst (λ z. IsInlined (after finds g f) (Nonterminal.closed z)) (ap (by_level_names f) e) a),
    )
    go (inr h) = inlined_alike finds g f w x h
