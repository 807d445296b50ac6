-- Grammars whose rules differ by declared types, symbols and attributes alone have one expansion; for dropping and resolving.
use Rattle.std.proofs.Common.{◌≡◌, ℕ, List, [], ◌∷◌, refl, ap, sym, ◌∙◌, subst, cond, Bool, true, false, inl, inr}
use Rattle.std.specs.Prelude.{Option, Some, None, map, filter, filter_map, option_map, codes, ◌||◌, ◌↔◌, nat_lt, length}
use Rattle.std.specs.List.{cons_option, list_any}
use Rattle.lalrpop_grammar_symbols.specs.Symbols.{Text, Terminal, Op, Closed, Closeds}
use Rattle.lalrpop_grammar_symbols.specs.Symbols.{WrittenSymbol}
use Rattle.lalrpop_grammar.specs.WrittenGrammar.{Attr, Condition, ConditionTest, Ty, Origin}
use Rattle.lalrpop_grammar_language.specs.Among.{Among}
use Rattle.lalrpop_grammar_language.specs.Enabled.{EnabledGrammar, EnabledRule, Choice, IsRule, has_attr, has_name, rules_named}
use Rattle.lalrpop_grammar_language.specs.Levels.{Rank, first_attr, level_in, assoc_in, written_level, written_assoc, rank_after}
use Rattle.lalrpop_grammar_language.specs.Levels.{with_ranks, has_levels, ranked_choices, levels, loosest, greatest, tighter}
use Rattle.lalrpop_grammar_language.specs.Closing.{Binding, parameter_value, right_side}
use Rattle.lalrpop_grammar_language.specs.Conditions.{PassesTest, HoldsOf, Holds}
use Rattle.lalrpop_grammar_language.specs.Admitting.{Fits, bind, rank_level, argument_list}
use Rattle.lalrpop_grammar_language.specs.Expansion.{Nonterminal, RightSide, ByAlternative, ByPassDown, Produces, HasLevel, IsRoot}
use Rattle.lalrpop_grammar_language.specs.Expansion.{GrammarSymbol, grammar_symbol, origin_with}
use Rattle.lalrpop_grammar_language.proofs.PlaceLemmas.{among_map}
use Rattle.lalrpop_norm_theory.specs.Same.{SameExpansion}
use Rattle.lalrpop_norm_theory.specs.Inlined.{IsInlined}
use Rattle.lalrpop_grammar_language.proofs.AmongLemmas.{map_among}
use Rattle.lalrpop_norm_theory.proofs.PassLemmas.{SameExpansion-alike}

-- what becomes of a rule's declared type, of its alternatives' symbols, and of attributes
pub record RuleChange : Type 0 where
  pub declared : EnabledRule → Option Ty
  pub expr : EnabledRule → Choice → List WrittenSymbol
  pub attributes : List Attr → List Attr

-- an alternative with its symbols and attributes as the change makes them
abbrev pub changed_choice : RuleChange → EnabledRule → Choice → Choice
changed_choice w r c = record c { expr = w.expr r c; attributes = w.attributes c.attributes }

-- a rule with its declared type and its alternatives as the change makes them
abbrev pub changed_rule : RuleChange → EnabledRule → EnabledRule
changed_rule w r = record r { declared = w.declared r; choices = map (changed_choice w r) r.choices }

-- an alternative with its rank: the alternative is changed, the rank stays
abbrev pub changed_pair : RuleChange → EnabledRule → Choice × Option Rank → Choice × Option Rank
changed_pair w r p = (changed_choice w r p.0, p.1)

-- ranks are said by attributes that stay
pub record KeepsRanks (f : List Attr → List Attr) : Type 0 where
  pub marks : (l : List Attr) → has_attr (codes "precedence") (f l) ≡ has_attr (codes "precedence") l
  pub level : (l : List Attr) → first_attr (codes "precedence") (f l) ≡ first_attr (codes "precedence") l
  pub side : (l : List Attr) → first_attr (codes "assoc") (f l) ≡ first_attr (codes "assoc") l

-- the rules of the second grammar are those of the first, each changed; all else is alike
pub record HasChangedRules (w : RuleChange) (g h : EnabledGrammar) : Type 0 where
  pub rules : h.rules ≡ map (changed_rule w) g.rules
  pub bares : h.bares ≡ g.bares
  pub finds : h.finds ≡ g.finds
  pub spelled : h.spelled ≡ g.spelled
  pub ranks : KeepsRanks w.attributes

-- closed symbols of alternatives stay
abbrev pub KeepsSides : RuleChange → EnabledGrammar → EnabledGrammar → Type 0
KeepsSides w g h =
    (n : Text) (r : EnabledRule) → IsRule g n r → (args : Closeds) (p : Choice × Option Rank)
    → right_side h (changed_rule w r) (bind r args) (changed_pair w r p) ≡ right_side g r (bind r args) p

-- ranks

abbrev says_level : Choice → Bool
says_level c = has_attr (codes "precedence") c.attributes

any_kept : (w : RuleChange) → KeepsRanks w.attributes → (r : EnabledRule) (cs : List Choice) →
    list_any says_level (map (changed_choice w r) cs) ≡ list_any says_level cs
any_kept w k r [] = refl
any_kept w k r (c ∷ cs) =
    ap (λ (b : Bool). b || list_any says_level (map (changed_choice w r) cs)) (k.marks c.attributes)
    ∙ ap (λ (b : Bool). says_level c || b) (any_kept w k r cs)

-- where attributes keep ranks a changed rule has levels just where it had them
pub levels_kept : (w : RuleChange) → KeepsRanks w.attributes → (r : EnabledRule) → has_levels (changed_rule w r) ≡ has_levels r
levels_kept w k r = any_kept w k r r.choices

rank_kept : (w : RuleChange) → KeepsRanks w.attributes → (r : EnabledRule) (last : Option Rank) (c : Choice) →
    rank_after last (written_level (changed_choice w r c)) (written_assoc (changed_choice w r c))
    ≡ rank_after last (written_level c) (written_assoc c)
rank_kept w k r last c =
    ap (λ l. rank_after last (option_map level_in l) (written_assoc (changed_choice w r c))) (k.level c.attributes)
    ∙ ap (λ s. rank_after last (written_level c) (option_map assoc_in s)) (k.side c.attributes)

ranks_kept : (w : RuleChange) → KeepsRanks w.attributes → (r : EnabledRule) (last : Option Rank) (cs : List Choice) →
    with_ranks last (map (changed_choice w r) cs) ≡ map (changed_pair w r) (with_ranks last cs)
ranks_kept w k r last [] = refl
ranks_kept w k r last (c ∷ cs) = ap front (rank_kept w k r last c) ∙ ap behind (ranks_kept w k r rank cs)
  where
    rank : Option Rank
    rank = rank_after last (written_level c) (written_assoc c)

    front : Option Rank → List (Choice × Option Rank)
    front o = (changed_choice w r c, o) ∷ with_ranks o (map (changed_choice w r) cs)

    behind : List (Choice × Option Rank) → List (Choice × Option Rank)
    behind ps = (changed_choice w r c, rank) ∷ ps

abbrev without_rank : Choice → Choice × Option Rank
without_rank c = (c, None)

unranked_kept : (w : RuleChange) (r : EnabledRule) (cs : List Choice) →
    map without_rank (map (changed_choice w r) cs) ≡ map (changed_pair w r) (map without_rank cs)
unranked_kept w r [] = refl
unranked_kept w r (c ∷ cs) = ap (λ l. without_rank (changed_choice w r c) ∷ l) (unranked_kept w r cs)

-- the alternatives with their ranks
pub ranked_kept : (w : RuleChange) → KeepsRanks w.attributes → (r : EnabledRule) →
    ranked_choices (changed_rule w r) ≡ map (changed_pair w r) (ranked_choices r)
ranked_kept w k r = ap left (levels_kept w k r) ∙ go (has_levels r)
  where
    left : Bool → List (Choice × Option Rank)
    left b = cond b (with_ranks None (map (changed_choice w r) r.choices)) (map without_rank (map (changed_choice w r) r.choices))

    go : (b : Bool) → left b ≡ map (changed_pair w r) (cond b (with_ranks None r.choices) (map without_rank r.choices))
    go true = ranks_kept w k r None r.choices
    go false = unranked_kept w r r.choices

abbrev level_part : Choice × Option Rank → Option ℕ
level_part p = option_map (λ k. k.level) p.1

parts_kept : (w : RuleChange) (r : EnabledRule) (ps : List (Choice × Option Rank)) →
    filter_map level_part (map (changed_pair w r) ps) ≡ filter_map level_part ps
parts_kept w r [] = refl
parts_kept w r (p ∷ ps) = ap (λ l. cons_option (level_part p) l) (parts_kept w r ps)

-- where attributes keep ranks a changed rule has the same levels
pub same_levels : (w : RuleChange) → KeepsRanks w.attributes → (r : EnabledRule) → levels (changed_rule w r) ≡ levels r
same_levels w k r = ap (filter_map level_part) (ranked_kept w k r) ∙ parts_kept w r (ranked_choices r)

-- so its loosest level is the same
pub loosest_kept : (w : RuleChange) → KeepsRanks w.attributes → (r : EnabledRule) → loosest (changed_rule w r) ≡ loosest r
loosest_kept w k r = ap greatest (same_levels w k r)

-- and from each level the next tighter one is the same
pub tighter_kept : (w : RuleChange) → KeepsRanks w.attributes → (r : EnabledRule) (j : ℕ) →
    tighter (changed_rule w r) j ≡ tighter r j
tighter_kept w k r j = ap (λ (ns : List ℕ). greatest (filter (λ (n : ℕ). nat_lt n j) ns)) (same_levels w k r)

-- names

among_named : (w : RuleChange) (n : Text) (rs : List EnabledRule) →
    filter (has_name n) (map (changed_rule w) rs) ≡ map (changed_rule w) (filter (has_name n) rs)
among_named w n [] = refl
among_named w n (r ∷ rs) = go (has_name n r) (among_named w n rs)
  where
    others : List EnabledRule
    others = filter (has_name n) rs

    changed_others : List EnabledRule
    changed_others = filter (has_name n) (map (changed_rule w) rs)

    go : (b : Bool) → changed_others ≡ map (changed_rule w) others →
        cond b (changed_rule w r ∷ changed_others) changed_others ≡ map (changed_rule w) (cond b (r ∷ others) others)
    go true e = ap (λ l. changed_rule w r ∷ l) e
    go false e = e

-- the rules of a name are changed
pub named_kept : (w : RuleChange) (g h : EnabledGrammar) → HasChangedRules w g h → (n : Text) →
    rules_named h n ≡ map (changed_rule w) (rules_named g n)
named_kept w g h k n = ap (filter (has_name n)) k.rules ∙ among_named w n g.rules

-- the rule of a name in the first grammar, changed, is the rule of that name in the second
pub rule_after : (w : RuleChange) (g h : EnabledGrammar) → HasChangedRules w g h → (n : Text) (r : EnabledRule) → IsRule g n r →
    IsRule h n (changed_rule w r)
rule_after w g h k n r e = named_kept w g h k n ∙ ap (map (changed_rule w)) e

abbrev first_or : {A : Type 0} → A → List A → A
first_or x [] = x
first_or x (y ∷ ys) = y

pub only_of_map : {A B : Type 0} (f : A → B) (xs : List A) (y : B) → map f xs ≡ y ∷ [] → (x : A) × (xs ≡ x ∷ []) × (f x ≡ y)
only_of_map f [] y e = cc
only_of_map f (x ∷ []) y e = (x, refl, ap (first_or y) e)
only_of_map f (x ∷ z ∷ xs) y e = cc

-- each rule of a name in the second grammar is the changed rule of that name in the first
pub rule_before : (w : RuleChange) (g h : EnabledGrammar) → HasChangedRules w g h → (n : Text) (q : EnabledRule) → IsRule h n q →
    (r : EnabledRule) × IsRule g n r × (changed_rule w r ≡ q)
rule_before w g h k n q e = only_of_map (changed_rule w) (rules_named g n) q (sym (named_kept w g h k n) ∙ e)

-- conditions ask of the grammar how patterns are found, and nothing else

pub holds_with : (g h : EnabledGrammar) → h.finds ≡ g.finds → (b : Binding) (o : Option Condition) → Holds g b o → Holds h b o
holds_with g h e b None m = tt
holds_with g h e b (Some c) m = of_value (parameter_value b c.parameter) m
  where
    of_test : (t : ConditionTest) (text : Text) → PassesTest g t text c.against → PassesTest h t text c.against
    of_test ConditionTest.equals text p = p
    of_test ConditionTest.not_equals text p = p
    of_test ConditionTest.matches text p = ap (λ f. f c.against text) e ∙ p
    of_test ConditionTest.not_matches text p = ap (λ f. f c.against text) e ∙ p

    of_value : (v : Option Closed) → HoldsOf g c v → HoldsOf h c v
    of_value (Some (Closed.terminal (Terminal.quoted t))) p = of_test c.test t p
    of_value (Some (Closed.terminal (Terminal.regex t))) p = p
    of_value (Some (Closed.terminal (Terminal.bare n))) p = p
    of_value (Some (Closed.terminal Terminal.error)) p = p
    of_value (Some (Closed.call n args level)) p = p
    of_value (Some (Closed.repeat op x)) p = p
    of_value (Some (Closed.group xs)) p = p
    of_value (Some (Closed.choose x)) p = p
    of_value (Some (Closed.name mutable n x)) p = p
    of_value (Some Closed.lookahead) p = p
    of_value (Some Closed.lookbehind) p = p
    of_value (Some Closed.faulty) p = p
    of_value None p = p

-- an alternative that fits a call in the first grammar fits it, changed, in the second
pub fits_after : (w : RuleChange) (g h : EnabledGrammar) → HasChangedRules w g h → (n : Text) (args : Closeds) (r : EnabledRule)
    (p : Choice × Option Rank) → Fits g n args r p → Fits h n args (changed_rule w r) (changed_pair w r p)
fits_after w g h k n args r p f = record {
  rule = rule_after w g h k n r f.rule;
  arguments = f.arguments;
  written = subst (λ ps. Among ps (changed_pair w r p)) (sym (ranked_kept w k.ranks r))
      (map_among (changed_pair w r) (ranked_choices r) p f.written);
  leveled = f.leveled ∙ sym (levels_kept w k.ranks r);
  holds = holds_with g h k.finds (bind r args) p.0.condition f.holds;
}

-- a changed alternative that fits a call in the second grammar fits it, unchanged, in the first
pub fits_before : (w : RuleChange) (g h : EnabledGrammar) → HasChangedRules w g h → (n : Text) (args : Closeds) (r : EnabledRule)
    (p : Choice × Option Rank) → IsRule g n r → Among (ranked_choices r) p
    → Fits h n args (changed_rule w r) (changed_pair w r p) → Fits g n args r p
fits_before w g h k n args r p i m f = record {
  rule = i;
  arguments = f.arguments;
  written = m;
  leveled = f.leveled ∙ levels_kept w k.ranks r;
  holds = holds_with h g (sym k.finds) (bind r args) p.0.condition f.holds;
}

-- productions

alternative_after : (w : RuleChange) (g h : EnabledGrammar) → HasChangedRules w g h → KeepsSides w g h → (n : Text)
    (args : Closeds) (level : Option ℕ) (o : Origin) (side : RightSide) → ByAlternative g n args level o side
    → ByAlternative h n args level o side
alternative_after w g h k s n args level o side b = record {
  rule = changed_rule w b.rule;
  choice = changed_pair w b.rule b.choice;
  fits = fits_after w g h k n args b.rule b.choice b.fits;
  level_is = b.level_is;
  origin_is = b.origin_is ∙ ap (λ (f : Text → Text). origin_with (argument_list f args) b.choice.0.origin) (sym k.spelled);
  side_is = b.side_is ∙ ap (map grammar_symbol) (sym (s n b.rule b.fits.rule args b.choice));
}

alternative_before : (w : RuleChange) (g h : EnabledGrammar) → HasChangedRules w g h → KeepsSides w g h → (n : Text)
    (args : Closeds) (level : Option ℕ) (o : Origin) (side : RightSide) → ByAlternative h n args level o side
    → ByAlternative g n args level o side
alternative_before w g h k s n args level o side b =
    let m = rule_before w g h k n b.rule b.fits.rule in of_rule m.0 m.1 m.2
  where
    of_choice : (r : EnabledRule) → IsRule g n r → changed_rule w r ≡ b.rule → (p : Choice × Option Rank) →
        Among (ranked_choices r) p → changed_pair w r p ≡ b.choice → ByAlternative g n args level o side
    of_choice r i e p m c = record {
      rule = r;
      choice = p;
      fits = fits_before w g h k n args r p i m
          (subst (λ q. Fits h n args (changed_rule w r) q) (sym c) (subst (λ q. Fits h n args q b.choice) (sym e) b.fits));
      level_is = ap (λ (q : Choice × Option Rank). rank_level q.1) c ∙ b.level_is;
      origin_is = b.origin_is ∙ ap (λ (q : Choice × Option Rank). origin_with (argument_list h.spelled args) q.0.origin) (sym c)
          ∙ ap (λ (f : Text → Text). origin_with (argument_list f args) p.0.origin) k.spelled;
      side_is = b.side_is ∙ ap (λ (q : EnabledRule). map grammar_symbol (right_side h q (bind q args) b.choice)) (sym e)
          ∙ ap (λ (q : Choice × Option Rank). map grammar_symbol (right_side h (changed_rule w r) (bind r args) q)) (sym c)
          ∙ ap (map grammar_symbol) (s n r i args p);
    }

    of_rule : (r : EnabledRule) → IsRule g n r → changed_rule w r ≡ b.rule → ByAlternative g n args level o side
    of_rule r i e =
        let c = among_map (changed_pair w r) (ranked_choices r) b.choice
        (subst (λ ps. Among ps b.choice) (ranked_kept w k.ranks r)
        (subst (λ q. Among (ranked_choices q) b.choice) (sym e) b.fits.written)) in
        of_choice r i e c.0 c.1 c.2

pass_down_after : (w : RuleChange) (g h : EnabledGrammar) → HasChangedRules w g h → (n : Text) (args : Closeds)
    (level : Option ℕ) (o : Origin) (side : RightSide) → ByPassDown g n args level o side → ByPassDown h n args level o side
pass_down_after w g h k n args level o side b = record {
  rule = changed_rule w b.rule;
  is_rule = rule_after w g h k n b.rule b.is_rule;
  arguments = b.arguments;
  from = b.from;
  to = b.to;
  from_is = b.from_is;
  to_is = tighter_kept w k.ranks b.rule b.from ∙ b.to_is;
  origin_is = b.origin_is;
  side_is = b.side_is;
}

pass_down_before : (w : RuleChange) (g h : EnabledGrammar) → HasChangedRules w g h → (n : Text) (args : Closeds)
    (level : Option ℕ) (o : Origin) (side : RightSide) → ByPassDown h n args level o side → ByPassDown g n args level o side
pass_down_before w g h k n args level o side b =
    let m = rule_before w g h k n b.rule b.is_rule in record {
      rule = m.0;
      is_rule = m.1;
      arguments = b.arguments ∙ ap (λ (q : EnabledRule). length q.parameters) (sym m.2);
      from = b.from;
      to = b.to;
      from_is = b.from_is;
      to_is = sym (tighter_kept w k.ranks m.0 b.from) ∙ ap (λ (q : EnabledRule). tighter q b.from) m.2 ∙ b.to_is;
      origin_is = b.origin_is;
      side_is = b.side_is;
    }

-- each production in the first grammar is one in the second
pub produces_after : (w : RuleChange) (g h : EnabledGrammar) → HasChangedRules w g h → KeepsSides w g h → (x : Nonterminal)
    (o : Origin) (side : RightSide) → Produces g x o side → Produces h x o side
produces_after w g h k s (Nonterminal.start n) o side m = (
  changed_rule w m.0,
  rule_after w g h k n m.0 m.1,
  m.2,
  m.3,
  m.4,
  m.5 ∙ ap (λ (l : Option ℕ). GrammarSymbol.nonterminal (Nonterminal.closed (Closed.call n Closeds.none l)) ∷ [])
      (sym (loosest_kept w k.ranks m.0)),
)
produces_after w g h k s (Nonterminal.closed (Closed.call n args level)) o side (inl b) =
    inl (alternative_after w g h k s n args level o side b)
produces_after w g h k s (Nonterminal.closed (Closed.call n args level)) o side (inr b) =
    inr (pass_down_after w g h k n args level o side b)
produces_after w g h k s (Nonterminal.closed (Closed.repeat Op.plus x)) o side m = m
produces_after w g h k s (Nonterminal.closed (Closed.repeat Op.star x)) o side m = m
produces_after w g h k s (Nonterminal.closed (Closed.repeat Op.question x)) o side m = m
produces_after w g h k s (Nonterminal.closed (Closed.group xs)) o side m = m
produces_after w g h k s (Nonterminal.closed Closed.lookahead) o side m = m
produces_after w g h k s (Nonterminal.closed Closed.lookbehind) o side m = m
produces_after w g h k s (Nonterminal.closed (Closed.terminal t)) o side m = m
produces_after w g h k s (Nonterminal.closed (Closed.choose x)) o side m = m
produces_after w g h k s (Nonterminal.closed (Closed.name mutable n x)) o side m = m
produces_after w g h k s (Nonterminal.closed Closed.faulty) o side m = m

-- each production in the second grammar is one in the first
pub produces_before : (w : RuleChange) (g h : EnabledGrammar) → HasChangedRules w g h → KeepsSides w g h → (x : Nonterminal)
    (o : Origin) (side : RightSide) → Produces h x o side → Produces g x o side
produces_before w g h k s (Nonterminal.start n) o side m =
    let b = rule_before w g h k n m.0 m.1 in (
      b.0,
      b.1,
      ap (λ (q : EnabledRule). q.parameters) b.2 ∙ m.2,
      ap (λ (q : EnabledRule). q.public) b.2 ∙ m.3,
      m.4,
      m.5 ∙ ap (λ (q : EnabledRule). GrammarSymbol.nonterminal (Nonterminal.closed (Closed.call n Closeds.none
          (loosest q))) ∷ []) (sym b.2)
          ∙ ap (λ (l : Option ℕ). GrammarSymbol.nonterminal (Nonterminal.closed (Closed.call n Closeds.none l)) ∷ [])
          (loosest_kept w k.ranks b.0),
    )
produces_before w g h k s (Nonterminal.closed (Closed.call n args level)) o side (inl b) =
    inl (alternative_before w g h k s n args level o side b)
produces_before w g h k s (Nonterminal.closed (Closed.call n args level)) o side (inr b) =
    inr (pass_down_before w g h k n args level o side b)
produces_before w g h k s (Nonterminal.closed (Closed.repeat Op.plus x)) o side m = m
produces_before w g h k s (Nonterminal.closed (Closed.repeat Op.star x)) o side m = m
produces_before w g h k s (Nonterminal.closed (Closed.repeat Op.question x)) o side m = m
produces_before w g h k s (Nonterminal.closed (Closed.group xs)) o side m = m
produces_before w g h k s (Nonterminal.closed Closed.lookahead) o side m = m
produces_before w g h k s (Nonterminal.closed Closed.lookbehind) o side m = m
produces_before w g h k s (Nonterminal.closed (Closed.terminal t)) o side m = m
produces_before w g h k s (Nonterminal.closed (Closed.choose x)) o side m = m
produces_before w g h k s (Nonterminal.closed (Closed.name mutable n x)) o side m = m
produces_before w g h k s (Nonterminal.closed Closed.faulty) o side m = m

-- roots

level_after : (w : RuleChange) → KeepsRanks w.attributes → (r : EnabledRule) (level : Option ℕ) → HasLevel r level →
    HasLevel (changed_rule w r) level
level_after w k r None m = levels_kept w k r ∙ m
level_after w k r (Some l) m = subst (λ ls. Among ls l) (sym (same_levels w k r)) m

level_before : (w : RuleChange) → KeepsRanks w.attributes → (r : EnabledRule) (level : Option ℕ) →
    HasLevel (changed_rule w r) level → HasLevel r level
level_before w k r None m = sym (levels_kept w k r) ∙ m
level_before w k r (Some l) m = subst (λ ls. Among ls l) (same_levels w k r) m

-- each root of the first grammar is one of the second
pub root_after : (w : RuleChange) (g h : EnabledGrammar) → HasChangedRules w g h → KeepsSides w g h → (x : Nonterminal) →
    IsRoot g x → IsRoot h x
root_after w g h k s x (inl (n, side, e, m)) = inl (n, side, e, produces_after w g h k s (Nonterminal.start n) Origin.start side m)
root_after w g h k s x (inr (r, level, i, p, l, e)) =
    inr (changed_rule w r, level, rule_after w g h k r.name r i, p, level_after w k.ranks r level l, e)

-- each root of the second grammar is one of the first
pub root_before : (w : RuleChange) (g h : EnabledGrammar) → HasChangedRules w g h → KeepsSides w g h → (x : Nonterminal) →
    IsRoot h x → IsRoot g x
root_before w g h k s x (inl (n, side, e, m)) = inl (n, side, e, produces_before w g h k s (Nonterminal.start n) Origin.start side m)
root_before w g h k s x (inr (q, level, i, p, l, e)) =
    let b = rule_before w g h k q.name q i in
    inr (
      b.0,
      level,
      subst (λ n. IsRule g n b.0) (sym (ap (λ (t : EnabledRule). t.name) b.2)) b.1,
      ap (λ (t : EnabledRule). t.parameters) b.2 ∙ p,
      level_before w k.ranks b.0 level (subst (λ t. HasLevel t level) (sym b.2) l),
      e ∙ ap (λ (t : EnabledRule). Nonterminal.closed (Closed.call t.name Closeds.none level)) (sym b.2),
    )

-- a change of rules that keeps the closed symbols of alternatives keeps the expansion
pub changed_expansion : (w : RuleChange) (g h : EnabledGrammar) → HasChangedRules w g h → KeepsSides w g h →
    SameExpansion g h (λ x. x)
changed_expansion w g h k s =
    SameExpansion-alike g h (λ x o side. (produces_after w g h k s x o side, produces_before w g h k s x o side))
    (λ x. (root_after w g h k s x, root_before w g h k s x))

-- and which nonterminals are inlined
pub changed_inlined : (w : RuleChange) (g h : EnabledGrammar) → HasChangedRules w g h → (x : Nonterminal) →
    IsInlined g x ↔ IsInlined h x
changed_inlined w g h k (Nonterminal.start n) = (λ m. m, λ m. m)
changed_inlined w g h k (Nonterminal.closed (Closed.call n args level)) = (
  λ m. (changed_rule w m.0, rule_after w g h k n m.0 m.1, m.2),
  λ m. let b = rule_before w g h k n m.0 m.1 in (b.0, b.1, ap (λ (q : EnabledRule). q.inlined) b.2 ∙ m.2),
)
changed_inlined w g h k (Nonterminal.closed (Closed.repeat Op.plus x)) = (λ m. m, λ m. m)
changed_inlined w g h k (Nonterminal.closed (Closed.repeat Op.star x)) = (λ m. m, λ m. m)
changed_inlined w g h k (Nonterminal.closed (Closed.repeat Op.question x)) = (λ m. m, λ m. m)
changed_inlined w g h k (Nonterminal.closed (Closed.group xs)) = (λ m. m, λ m. m)
changed_inlined w g h k (Nonterminal.closed Closed.lookahead) = (λ m. m, λ m. m)
changed_inlined w g h k (Nonterminal.closed Closed.lookbehind) = (λ m. m, λ m. m)
changed_inlined w g h k (Nonterminal.closed (Closed.terminal t)) = (λ m. m, λ m. m)
changed_inlined w g h k (Nonterminal.closed (Closed.choose x)) = (λ m. m, λ m. m)
changed_inlined w g h k (Nonterminal.closed (Closed.name mutable n x)) = (λ m. m, λ m. m)
changed_inlined w g h k (Nonterminal.closed Closed.faulty) = (λ m. m, λ m. m)
