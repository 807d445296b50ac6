-- The right sides of a level's rule are those of the written rule under the names of the levels; for the law of what levels keep.
use Rattle.std.specs.Str.{bytes_eq}
use Rattle.std.proofs.Common.{◌≡◌, ℕ, ◌+◌, List, [], ◌∷◌, refl, ap, sym, ◌∙◌, cond, Bool, true, false}
use Rattle.std.proofs.Common.{length}
use Rattle.std.specs.Prelude.{Option, Some, None, map, zip, option_map}
use Rattle.std.proofs.lemmas.Bool.{eq-eqb}
use Rattle.lalrpop_grammar_symbols.specs.Symbols.{Text, TextSpan, syms, Closed, Closeds, closed_list}
use Rattle.lalrpop_grammar_symbols.specs.Subsymbols.{subsymbols_of}
use Rattle.lalrpop_grammar.specs.WrittenGrammar.{Alternative, Rule, Grammar, rules_of}
use Rattle.lalrpop_grammar_language.specs.Among.{Among}
use Rattle.lalrpop_grammar_language.specs.Enabled.{EnabledRule, Choice, IsRule}
use Rattle.lalrpop_grammar_language.specs.Levels.{Rank, has_levels, levels, loosest, tighter, allowed_level}
use Rattle.lalrpop_grammar_language.specs.Closing.{Scope, name_meaning, parameter_value, names_owner, occurrences_in, call_level}
use Rattle.lalrpop_grammar_language.specs.Closing.{if_plain, if_macro, plain_name, plain_call, close, close_all, close_list, name_or}
use Rattle.lalrpop_grammar_language.specs.Closing.{is_sound, are_sound, sound_or_faulty, scope_of, right_side}
use Rattle.lalrpop_grammar_language.specs.Admitting.{bind}
use Rattle.lalrpop_norm_theory.specs.Between.{rule_between}
use Rattle.lalrpop_norm_theory.specs.Premises.{AreDifferent}
use Rattle.lalrpop_grammar_language.proofs.AmongLemmas.{map_among}
use Rattle.lalrpop_norm_theory.proofs.LevelLemmas.{no_loosest}
use Rattle.lalrpop_norm_theory.specs.LevelRules.{by_level_names, all_by_level_names, occurrence_name, rename_listed_occurrences}
use Rattle.lalrpop_norm_theory.specs.LevelRules.{IsLeveledScope}
use Rattle.lalrpop_norm_theory.proofs.LevelRuleLemmas.{close_list_leveled, all-sound-renamed}
use Rattle.lalrpop_norm_theory.specs.LeveledGrammar.{ranked_alternatives, occurrence_scope, parameters_alone, leveled_alternative}
use Rattle.lalrpop_norm_theory.specs.LeveledGrammar.{names_alone, own_call, pass_down_to, rule_at_level}
use Rattle.lalrpop_norm_theory.specs.LevelLaws.{IsLevelable}
use Rattle.lalrpop_norm_theory.proofs.LevelOrderLemmas.{rule_meant, meant_rule}
use Rattle.lalrpop_norm_theory.proofs.LeveledRuleLemmas.{rule_of_key, key_rule, bares_of-leveled}
use Rattle.lalrpop_norm_theory.proofs.LevelAttrLemmas.{flat_key, flat_at_level}
use Rattle.lalrpop_norm_theory.proofs.RightLevelLemmas.{has_loosest, IsRankOf, rank_of, allowed_present, tighter_present}
use Rattle.lalrpop_norm_theory.proofs.RenameLemmas.{RenameAlike, rename_listed_alike, listed_stay, counted_alike, NamesAreThere}
use Rattle.lalrpop_norm_theory.proofs.RenameLemmas.{AreResolvedInside, BindsParameters, listed_resolved_after}
use Rattle.lalrpop_norm_theory.proofs.LevelChoiceLemmas.{choice_between, ranked_choice, choice_listed}
use Rattle.lalrpop_norm_theory.proofs.LevelNameLemmas.{before, after, loosest_name, names_there, tighter_unhidden}
use Rattle.lalrpop_norm_theory.proofs.LevelBindingLemmas.{renamed_length, hide_alike, parameter_bound, other_free, renamed_value}
use Rattle.lalrpop_norm_theory.proofs.LevelBindingLemmas.{value_of_parameter, closed_names}
use Rattle.lalrpop_norm_theory.proofs.KeyRuleLemmas.{same_either}

-- the scopes of an alternative before and after

-- the scope of an alternative of a written rule, called with these arguments
abbrev pub scope_before : (Text → Text → Option Bool) → Grammar → Rule → Closeds → Choice → Option Rank → Scope
scope_before finds g r args c rank = scope_of (before finds g) (rule_between r) (bind (rule_between r) args) c rank

-- the scope of an alternative in the leveled grammar, with the arguments under the names of the levels
abbrev pub scope_after : (Text → Text → Option Bool) → Grammar → (Text → ℕ → Text) → EnabledRule → Closeds →
    Choice → Scope
scope_after finds g f q args c =
    scope_of (after finds g f) q (bind q (all_by_level_names f args)) c None

-- for a rule with the written one's parameters and without levels, the second scope is that of the first by levels' names
pub leveled_scope : (finds : Text → Text → Option Bool) (g : Grammar) (f : Text → ℕ → Text) → IsLevelable finds g f →
    (r : Rule)
    (args : Closeds) (c : Choice) (rank : Option Rank) → (q : EnabledRule) → q.parameters ≡ r.parameters →
    has_levels q ≡ false →
    (d : Choice) → NamesAreThere f (scope_before finds g r args c rank) (after finds g f) r.parameters →
    IsLeveledScope f (scope_before finds g r args c rank) (scope_after finds g f q args d)
leveled_scope finds g f w r args c rank q e flat d names = record {
  loosest_kept = λ n m h. loosest_name finds g f w n m (meant_rule (before finds g) n m h);
  rules = λ k n m h. let o = names.there k n m (meant_rule (before finds g) n m h) in
      (o.0, rule_meant (after finds g f) (occurrence_name f (scope_before finds g r args c rank) k n) o.0 o.1, o.2, o.3);
  bares = bares_of-leveled f g.items;
  bindings = λ n. ap (λ ps. parameter_value (zip ps (closed_list (all_by_level_names f args))) n) e
      ∙ renamed_value f r.parameters args n;
  no_levels = λ k. no_loosest q flat;
}

-- with as many arguments as parameters these are bound before, and no other name is bound before or after
pub binds : (finds : Text → Text → Option Bool) (g : Grammar) (f : Text → ℕ → Text) (r : Rule) (args : Closeds) (c : Choice)
    (rank : Option Rank) (q : EnabledRule) → q.parameters ≡ r.parameters → length (closed_list args) ≡ length r.parameters →
    (d : Choice) →
    BindsParameters (scope_before finds g r args c rank) (scope_after finds g f q args d) r.parameters
binds finds g f r args c rank q e many d = record {
  bound = λ n h. parameter_bound r.parameters (closed_list args) many n h;
  free = λ n h. other_free r.parameters (closed_list args) many n h;
  free_there = λ n h. ap (λ ps. parameter_value (zip ps (closed_list (all_by_level_names f args))) n) e
      ∙ other_free r.parameters (closed_list (all_by_level_names f args)) (renamed_length f args ∙ many) n h;
}

-- closing the renamed symbols
closes_renamed : (finds : Text → Text → Option Bool) (g : Grammar) (f : Text → ℕ → Text) → IsLevelable finds g f →
    (r : Rule) →
    Among (rules_of g.items) r → (args : Closeds) → length (closed_list args) ≡ length r.parameters →
    (c : Choice) (rank : Option Rank) →
    Among (rule_between r).choices c → IsRankOf (rule_between r) rank → (q : EnabledRule) → q.parameters ≡ r.parameters →
    has_levels q ≡ false → (d : Choice) →
    close_list (scope_after finds g f q args d) 0 (rename_listed_occurrences f (scope_before finds g r args c rank) 0 c.expr)
    ≡ map (by_level_names f) (close_list (scope_before finds g r args c rank) 0 c.expr)
closes_renamed finds g f w r i args many c rank there ranked q e flat d =
    let s = scope_before finds g r args c rank in
    let t = scope_after finds g f q args d in
    let names : NamesAreThere f s (after finds g f) r.parameters =
    names_there finds g f w r i (bind (rule_between r) args)
    (allowed_level (rule_between r) rank (occurrences_in (bind (rule_between r) args) r.name (syms c.expr)))
    (λ k. allowed_present (rule_between r) (has_loosest g w.right r i) rank ranked
    (occurrences_in (bind (rule_between r) args) r.name (syms c.expr)) k) in
    let inside : AreResolvedInside (before finds g) (rule_between r) (syms c.expr) =
    λ y j. w.resolved.symbols (rule_between r) c y
    (record { rule = map_among rule_between (rules_of g.items) r i; choice = there; symbol = j }) in
    close_list_leveled f s t (leveled_scope finds g f w r args c rank q e flat d names) 0 0 c.expr
    (listed_resolved_after f s t (rule_between r) names (binds finds g f r args c rank q e many d) 0 c.expr inside)

-- the right side of a level's alternative
pub leveled_side : (finds : Text → Text → Option Bool) (g : Grammar) (f : Text → ℕ → Text) → IsLevelable finds g f →
    (r : Rule) →
    Among (rules_of g.items) r → (args : Closeds) → length (closed_list args) ≡ length r.parameters →
    (a : Alternative) (k : Rank) →
    Among (ranked_alternatives r) (a, Some k) → (j : ℕ) →
    right_side (after finds g f) (rule_between (rule_at_level f r j))
    (bind (rule_between (rule_at_level f r j)) (all_by_level_names f args))
    (choice_between (leveled_alternative f r (a, Some k)), None)
    ≡ map (by_level_names f) (right_side (before finds g) (rule_between r) (bind (rule_between r) args) (choice_between a, Some k))
leveled_side finds g f w r i args many a k there j =
    let ranked = ranked_choice r a (Some k) there in
    let q = rule_between (rule_at_level f r j) in
    let d = choice_between (leveled_alternative f r (a, Some k)) in
    let s = scope_before finds g r args (choice_between a) (Some k) in
    let hide = hide_alike r.parameters (closed_list args) many in
    let alike : RenameAlike s (occurrence_scope r a (Some k)) =
    record {
      owners = refl;
      hide = hide;
      levels = λ l. ap (λ n. allowed_level (rule_between r) (Some k) n l)
          (counted_alike (bind (rule_between r) args) (parameters_alone r.parameters) r.name hide (subsymbols_of (syms a.expr)));
    } in
    ap (λ xs. close_list (scope_after finds g f q args d) 0 xs) (rename_listed_alike f s (occurrence_scope r a (Some k)) alike 0 a.expr)
    ∙ closes_renamed finds g f w r i args many (choice_between a) (Some k)
    (choice_listed (rule_between r) (choice_between a, Some k) ranked)
    (rank_of (rule_between r) (choice_between a) (Some k) ranked) q refl (flat_at_level f r j) d

-- and that of a rule without levels
pub unleveled_side : (finds : Text → Text → Option Bool) (g : Grammar) (f : Text → ℕ → Text) → IsLevelable finds g f →
    (r : Rule) →
    Among (rules_of g.items) r → has_levels (rule_between r) ≡ false → (args : Closeds) →
    length (closed_list args) ≡ length r.parameters →
    (c : Choice) → Among (rule_between r).choices c →
    right_side (after finds g f) (rule_between r) (bind (rule_between r) (all_by_level_names f args)) (c, None)
    ≡ map (by_level_names f) (right_side (before finds g) (rule_between r) (bind (rule_between r) args) (c, None))
unleveled_side finds g f w r i flat args many c there =
    let s = scope_before finds g r args c None in
    ap (λ xs. close_list (scope_after finds g f (rule_between r) args c) 0 xs)
    (sym (listed_stay f s (λ k. no_loosest (rule_between r) flat) 0 c.expr))
    ∙ closes_renamed finds g f w r i args many c None there tt (rule_between r) refl flat c

-- the pass to the next tighter level

no_arguments : (args : Closeds) → length (closed_list args) ≡ 0 → args ≡ Closeds.none
no_arguments Closeds.none e = refl
no_arguments (Closeds.more x xs) e = cc

flat_call : (t : Scope) (n : Text) (o : EnabledRule) → ((k : ℕ) → t.level_at k ≡ None) → loosest o ≡ None →
    call_level t 0 n o ≡ None
flat_call t n o none e = same_either (bytes_eq n t.owner) (t.level_at 0) (loosest o) None (none 0) e

-- a call of a rule by its own parameters
own_call_closes : (t : Scope) (span : TextSpan) (n : Text) (ps : List Text) (args : Closeds) (o : EnabledRule) →
    ((k : ℕ) → t.level_at k ≡ None) → IsRule t.grammar n o → loosest o ≡ None → o.parameters ≡ ps →
    parameter_value t.binding n ≡ None →
    length (closed_list args) ≡ length ps →
    ((p : Text × Closed) → Among (zip ps (closed_list args)) p → parameter_value t.binding p.0 ≡ Some p.1) →
    close t 0 (own_call span n ps) ≡ Closed.call n args None
own_call_closes t span n [] args o none is e same free many values =
    ap (λ m. plain_name t 0 n m) (rule_meant t.grammar n o is)
    ∙ ap (λ qs. if_plain qs (Closed.call n Closeds.none (call_level t 0 n o))) same
    ∙ ap (λ l. Closed.call n Closeds.none l) (flat_call t n o none e)
    ∙ ap (λ xs. Closed.call n xs None) (sym (no_arguments args many))
own_call_closes t span n (p ∷ ps) args o none is e same free many values =
    let inside = close_all t (0 + names_owner t.binding t.owner n) (syms (names_alone span (p ∷ ps))) in
    let closed : inside ≡ args = closed_names t span (0 + names_owner t.binding t.owner n) (p ∷ ps) args many values in
    ap (λ v. name_or (option_map (λ c. Closed.faulty) v) (plain_call t 0 n inside (name_meaning t.grammar n))) free
    ∙ ap (λ m. plain_call t 0 n inside m) (rule_meant t.grammar n o is)
    ∙ ap (λ xs. if_macro o.parameters xs (Closed.call n xs (call_level t 0 n o))) closed
    ∙ ap (λ qs. if_macro qs args (Closed.call n args (call_level t 0 n o))) same
    ∙ ap (λ b. cond b (Closed.call n args (call_level t 0 n o)) Closed.faulty)
    (eq-eqb (length (closed_list args)) (length (p ∷ ps)) many)
    ∙ ap (λ l. Closed.call n args l) (flat_call t n o none e)

-- the right side of a pass down
pub pass_side : (finds : Text → Text → Option Bool) (g : Grammar) (f : Text → ℕ → Text) → IsLevelable finds g f →
    (r : Rule) →
    Among (rules_of g.items) r → (args : Closeds) → length (closed_list args) ≡ length r.parameters → are_sound args ≡ true →
    (j to : ℕ) →
    Among (levels (rule_between r)) j → tighter (rule_between r) j ≡ Some to →
    right_side (after finds g f) (rule_between (rule_at_level f r j))
    (bind (rule_between (rule_at_level f r j)) (all_by_level_names f args))
    (choice_between (pass_down_to f r to), None)
    ≡ Closed.call (f r.name to) (all_by_level_names f args) None ∷ []
pass_side finds g f w r i args many sound j to h t =
    let q = rule_between (rule_at_level f r j) in
    let target = rule_between (rule_of_key f r (Some to)) in
    let present = tighter_present (rule_between r) j to t in
    let scope = scope_after finds g f q args (choice_between (pass_down_to f r to)) in
    let given = all_by_level_names f args in
    let as_many : length (closed_list given) ≡ length r.parameters = renamed_length f args ∙ many in
    let differ : AreDifferent r.parameters = w.resolved.parameters (rule_between r) (map_among rule_between (rules_of g.items) r i) in
    let closed : close scope 0 (own_call r.span (f r.name to) r.parameters) ≡ Closed.call (f r.name to) given None =
    own_call_closes scope r.span (f r.name to) r.parameters given target (λ k. no_loosest q (flat_at_level f r j))
    (key_rule finds g f w.names r (Some to) i present) (no_loosest target (flat_key f r (Some to) present)) refl
    (other_free r.parameters (closed_list given) as_many (f r.name to) (tighter_unhidden finds g f w r i j to h t)) as_many
    (λ p m. value_of_parameter r.parameters (closed_list given) differ p m) in
    let sound_call : is_sound (Closed.call (f r.name to) given None) ≡ true = all-sound-renamed f args ∙ sound in
    ap (λ c. sound_or_faulty c ∷ []) closed
    ∙ ap (λ b. cond b (Closed.call (f r.name to) given None) Closed.faulty ∷ []) sound_call
