-- What isn't carried, as the program finds it and as definitions say it; for the refusal of what isn't carried.
use Rattle.std.proofs.Common.{◌≡◌, ◌⊎◌, ℕ, ◌+◌, Bool, true, false, ◌&&◌, List, [], ◌∷◌, map, refl}
use Rattle.std.proofs.Common.{ap, sym, subst, inl, inr, filter}
use Rattle.std.specs.Borrow.{Bor}
use Rattle.std.specs.Option.{option_copied}
use Rattle.std.specs.Prelude.{Option, Some, None, is_some}
use Rattle.std.specs.List.{list_any}
use Rattle.lalrpop_grammar_symbols.specs.Symbols.{Text, Terminal, Sym, syms, WrittenSymbol}
use Rattle.lalrpop_grammar_symbols.specs.Subsymbols.{subsymbols_of}
use Rattle.lalrpop_grammar.specs.Items.{extern_in, first_in}
use Rattle.lalrpop_grammar.specs.Views.{extern_view, item_view}
use Rattle.lalrpop_grammar.specs.WrittenGrammar.{Alternative, Grammar, InternEntry, Origin, Rule, WrittenEntry, WrittenItem}
use Rattle.lalrpop_grammar.specs.WrittenGrammar.{rules_of}
use Rattle.lalrpop_grammar_symbols.specs.Symbols.{TextSpan}
use Rattle.lalrpop_grammar.specs.declared.extern_token.ExternToken.{ExternToken}
use Rattle.lalrpop_grammar.specs.declared.grammar.Grammar as program
use Rattle.lalrpop_grammar.specs.declared.grammar.GrammarItem.{GrammarItem}
use Rattle.lalrpop_grammar.specs.declared.grammar.GrammarItem.TheVariants as items
use Rattle.lalrpop_grammar.specs.Views.{grammar_view}
use Rattle.lalrpop_grammar_language.specs.Among.{Among}
use Rattle.lalrpop_grammar_language.specs.Enabled.{Choice, EnabledRule, at_places, choice_of, enabled_grammar, enabled_rule, is_active}
use Rattle.lalrpop_grammar_language.proofs.PlaceLemmas.{among_filter, among_map}
use Rattle.lalrpop_grammar_language.proofs.AmongLemmas.{map_among}
use Rattle.lalrpop_norm_theory.proofs.ClosedComparisonLemmas.{any-one, one-any}
use Rattle.lalrpop_norm_theory.proofs.LevelLemmas.{keeps}
use Rattle.lalrpop_norm_theory.specs.Premises.{HasNoExtern, HasNoRecovery, IsNoRecovery, IsSymbolOf}
use Rattle.lalrpop_run_prepare.specs.Carried.{HasExtern, HasRecovery, is_recovery}
use Rattle.lalrpop_run_prepare.specs.RecoverySearch.{alternative_recovers, grammar_recovers, rule_recovers}

-- extern blocks

extern_found : (xs : List GrammarItem) (b : ExternToken) → first_in extern_in xs ≡ Some b
    → Among (map item_view xs) (WrittenItem.extern_token (extern_view b))
extern_found [] b h = cc
extern_found (items.ExternToken e ∷ xs) b h =
    let same : e ≡ b = cc in inl (ap (λ (x : ExternToken). WrittenItem.extern_token (extern_view x)) same)
extern_found (items.MatchToken m ∷ xs) b h = inr (extern_found xs b h)
extern_found (items.InternToken es ∷ xs) b h = inr (extern_found xs b h)
extern_found (items.Nonterminal r ∷ xs) b h = inr (extern_found xs b h)
extern_found (items.Use t ∷ xs) b h = inr (extern_found xs b h)

-- where the first is none, each item is of another form
module _ (P : WrittenItem → Type 0) (rule : (r : Rule) → P (WrittenItem.nonterminal r))
    (block : (gs : List (List WrittenEntry)) (p : TextSpan) → P (WrittenItem.match_token gs p))
    (tokenizer : (es : List InternEntry) → P (WrittenItem.intern_token es)) (text : (t : Text) → P (WrittenItem.import t)) where
  each_other : (xs : List GrammarItem) → first_in extern_in xs ≡ None → (i : WrittenItem) → Among (map item_view xs) i → P i
  each_other [] h i k = absurd k
  each_other (items.ExternToken e ∷ xs) h i k = cc
  each_other (items.MatchToken m ∷ xs) h i (inl e) = subst P e (block _ _)
  each_other (items.MatchToken m ∷ xs) h i (inr k) = each_other xs h i k
  each_other (items.InternToken es ∷ xs) h i (inl e) = subst P e (tokenizer _)
  each_other (items.InternToken es ∷ xs) h i (inr k) = each_other xs h i k
  each_other (items.Nonterminal r ∷ xs) h i (inl e) = subst P e (rule _)
  each_other (items.Nonterminal r ∷ xs) h i (inr k) = each_other xs h i k
  each_other (items.Use t ∷ xs) h i (inl e) = subst P e (text _)
  each_other (items.Use t ∷ xs) h i (inr k) = each_other xs h i k

no_extern : (g : program.Grammar) → first_in extern_in g.items ≡ None → HasNoExtern (grammar_view g)
no_extern g h = each_other _ (λ r. tt) (λ gs p. tt) (λ es. tt) (λ t. tt) g.items h

-- where the search for an extern block has found one, the grammar has one
pub has_extern : (g : program.Grammar) (o : Option (Bor ExternToken)) → option_copied o ≡ first_in extern_in g.items
    → is_some o ≡ true → HasExtern (grammar_view g)
has_extern g None e h = cc
has_extern g (Some b) e h = (extern_view b.now, extern_found g.items b.now (sym e))

-- where the search for an extern block has found none, the grammar has none
pub lacks_extern : (g : program.Grammar) (o : Option (Bor ExternToken)) → option_copied o ≡ first_in extern_in g.items
    → is_some o ≡ false → HasNoExtern (grammar_view g)
lacks_extern g None e h = no_extern g (sym e)
lacks_extern g (Some b) e h = cc

-- error recovery

no_recovery : (x : WrittenSymbol) → is_recovery x ≡ false → IsNoRecovery x
no_recovery (Sym.error p) h = cc
no_recovery (Sym.terminal p Terminal.error) h = cc
no_recovery (Sym.terminal p (Terminal.quoted t)) h = tt
no_recovery (Sym.terminal p (Terminal.regex t)) h = tt
no_recovery (Sym.terminal p (Terminal.bare n)) h = tt
no_recovery (Sym.ambiguous_id p n) h = tt
no_recovery (Sym.nonterminal p n) h = tt
no_recovery (Sym.macro p n args) h = tt
no_recovery (Sym.name p mutable n x) h = tt
no_recovery (Sym.expr p xs) h = tt
no_recovery (Sym.repeat p op x) h = tt
no_recovery (Sym.choose p x) h = tt
no_recovery (Sym.lookahead p) h = tt
no_recovery (Sym.lookbehind p) h = tt

true_or_false : (b : Bool) → (b ≡ true) ⊎ (b ≡ false)
true_or_false true = inl refl
true_or_false false = inr refl

both_true : (a b : Bool) → a && b ≡ true → (a ≡ true) × (b ≡ true)
both_true true b h = (refl, h)
both_true false b h = cc

true_both : (a b : Bool) → a ≡ true → b ≡ true → a && b ≡ true
true_both true b h k = k
true_both false b h k = cc

-- alternatives keep their places, whatever these are
placed : (n : Text) (i : ℕ) (alternatives : List Alternative) (a : Alternative) → Among alternatives a
    → (o : Origin) × Among (at_places n i alternatives) (o, a)
placed n i [] a h = absurd h
placed n i (x ∷ xs) a (inl e) = (Origin.alternative n [] i, inl (ap (λ y. (Origin.alternative n [] i, y)) e))
placed n i (x ∷ xs) a (inr h) = let rest = placed n (i + 1) xs a h in (rest.0, inr rest.1)

unplaced : (n : Text) (i : ℕ) (alternatives : List Alternative) (p : Origin × Alternative)
    → Among (at_places n i alternatives) p → Among alternatives p.1
unplaced n i [] p h = absurd h
unplaced n i (x ∷ xs) p (inl e) = inl (ap (λ (q : Origin × Alternative). q.1) e)
unplaced n i (x ∷ xs) p (inr h) = inr (unplaced n (i + 1) xs p h)

module _ (finds : Text → Text → Option Bool) (features : List Text) (w : Grammar) where
  abbrev rule_active : Rule → Bool
  rule_active r = is_active features r.attributes

  abbrev choice_active : Origin × Alternative → Bool
  choice_active p = is_active features p.1.attributes

  pub recovery_found : grammar_recovers features w ≡ true → HasRecovery (enabled_grammar finds features w)
  recovery_found h =
      let r = any-one (rule_recovers features) (rules_of w.items) h in
      let rule = both_true (rule_active r.0) (list_any (alternative_recovers features) r.0.alternatives) r.2 in
      let a = any-one (alternative_recovers features) r.0.alternatives rule.1 in
      let expr = subsymbols_of (syms a.0.expr) in
      let choice = both_true (is_active features a.0.attributes) (list_any is_recovery expr) a.2 in
      let x = any-one is_recovery expr choice.1 in
      let there = placed r.0.name 0 r.0.alternatives a.0 a.1 in
      let places = at_places r.0.name 0 r.0.alternatives in
      record {
        rule = enabled_rule features r.0;
        choice = choice_of (there.0, a.0);
        symbol = x.0;
        there = record {
          rule = map_among (enabled_rule features) (filter rule_active (rules_of w.items)) r.0
              (keeps rule_active (rules_of w.items) r.0 r.1 rule.0);
          choice = map_among choice_of (filter choice_active places) (there.0, a.0)
              (keeps choice_active places (there.0, a.0) there.1 choice.0);
          symbol = x.1;
        };
        recovers = x.2;
      }

  -- a symbol of the enabled grammar is one that is looked at
  looked_at : (r : EnabledRule) (c : Choice) (x : WrittenSymbol) → IsSymbolOf (enabled_grammar finds features w) r c x
      → is_recovery x ≡ true → grammar_recovers features w ≡ true
  looked_at r c x there h =
      let s = among_map (enabled_rule features) (filter rule_active (rules_of w.items)) r there.rule in
      let rule = among_filter rule_active (rules_of w.items) s.0 s.1 in
      let among : Among (enabled_rule features s.0).choices c = subst (λ (q : EnabledRule). Among q.choices c) (sym s.2) there.choice in
      let places = at_places s.0.name 0 s.0.alternatives in
      let p = among_map choice_of (filter choice_active places) c among in
      let choice = among_filter choice_active places p.0 p.1 in
      let inside : Among (subsymbols_of (syms p.0.1.expr)) x =
      subst (λ (d : Choice). Among (subsymbols_of (syms d.expr)) x) (sym p.2) there.symbol in
      one-any (rule_recovers features) (rules_of w.items) s.0 rule.0
      (true_both (rule_active s.0) (list_any (alternative_recovers features) s.0.alternatives) rule.1
      (one-any (alternative_recovers features) s.0.alternatives p.0.1 (unplaced s.0.name 0 s.0.alternatives p.0 choice.0)
      (true_both (choice_active p.0) (list_any is_recovery (subsymbols_of (syms p.0.1.expr))) choice.1
      (one-any is_recovery (subsymbols_of (syms p.0.1.expr)) x inside h))))

  pub recovery_missing : grammar_recovers features w ≡ false → HasNoRecovery (enabled_grammar finds features w)
  recovery_missing h r c x there = told (true_or_false (is_recovery x))
    where
      told : (is_recovery x ≡ true) ⊎ (is_recovery x ≡ false) → IsNoRecovery x
      told (inl e) = let yes : grammar_recovers features w ≡ true = looked_at r c x there e in cc
      told (inr e) = no_recovery x e
