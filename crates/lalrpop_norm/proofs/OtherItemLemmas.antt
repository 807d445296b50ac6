-- Items that are no rules stay as they are through dropping, resolving, levels and macros, so no tokenizer comes in; for the
-- normalizer.
use Rattle.std.proofs.Common.{◌≡◌, ℕ, List, [], ◌∷◌, ◌++◌, refl, ap, ◌∙◌, subst, cond, Bool, true}
use Rattle.std.proofs.Common.{false, inl, inr}
use Rattle.std.specs.Prelude.{Some, None, map, flat_map, filter_map}
use Rattle.std.specs.List.{cons_option}
use Rattle.lalrpop_grammar_symbols.specs.Symbols.{Text}
use Rattle.lalrpop_grammar.specs.WrittenGrammar.{InternEntry, WrittenItem, Rule, Grammar}
use Rattle.lalrpop_grammar_language.specs.Among.{Among}
use Rattle.lalrpop_grammar_language.specs.Enabled.{is_active}
use Rattle.lalrpop_norm_theory.specs.Between.{enabled_part, enabled_item, without_disabled}
use Rattle.lalrpop_norm_theory.specs.Premises.{IsReadGrammar}
use Rattle.lalrpop_norm_theory.specs.Resolving.{DefinedNames, defined_names, resolved_item, resolved_grammar}
use Rattle.lalrpop_norm_theory.specs.LeveledGrammar.{leveled_rules, leveled_item}
use Rattle.lalrpop_norm_macros.specs.RuleItems.{other_items}
use Rattle.lalrpop_norm_chain.specs.PremiseLaws.{leveled_part}
use Rattle.lalrpop_norm_chain.specs.LoweredViews.{HasNoTokenizer}

others_left : (features : List Text) (items : List WrittenItem)
    → other_items (filter_map (enabled_item features) items) ≡ other_items items
others_left features [] = refl
others_left features (WrittenItem.match_token groups place ∷ items) =
    ap (λ l. WrittenItem.match_token groups place ∷ l) (others_left features items)
others_left features (WrittenItem.extern_token block ∷ items) =
    ap (λ l. WrittenItem.extern_token block ∷ l) (others_left features items)
others_left features (WrittenItem.intern_token entries ∷ items) =
    ap (λ l. WrittenItem.intern_token entries ∷ l) (others_left features items)
others_left features (WrittenItem.import text ∷ items) = ap (λ l. WrittenItem.import text ∷ l) (others_left features items)
others_left features (WrittenItem.nonterminal r ∷ items) = go (is_active features r.attributes) (others_left features items)
  where
    others : List WrittenItem
    others = filter_map (enabled_item features) items

    go : (b : Bool) → other_items others ≡ other_items items
        → other_items (cons_option (cond b (Some (WrittenItem.nonterminal (enabled_part features r))) None) others)
        ≡ other_items items
    go true h = h
    go false h = h

others_resolved : (d : DefinedNames) (items : List WrittenItem) → other_items (map (resolved_item d) items) ≡ other_items items
others_resolved d [] = refl
others_resolved d (WrittenItem.match_token groups place ∷ items) =
    ap (λ l. WrittenItem.match_token groups place ∷ l) (others_resolved d items)
others_resolved d (WrittenItem.extern_token block ∷ items) =
    ap (λ l. WrittenItem.extern_token block ∷ l) (others_resolved d items)
others_resolved d (WrittenItem.intern_token entries ∷ items) =
    ap (λ l. WrittenItem.intern_token entries ∷ l) (others_resolved d items)
others_resolved d (WrittenItem.nonterminal r ∷ items) = others_resolved d items
others_resolved d (WrittenItem.import text ∷ items) = ap (λ l. WrittenItem.import text ∷ l) (others_resolved d items)

no_others : (rs : List Rule) (items : List WrittenItem) → other_items (map WrittenItem.nonterminal rs ++ items) ≡ other_items items
no_others [] items = refl
no_others (r ∷ rs) items = no_others rs items

others_leveled : (f : Text → ℕ → Text) (items : List WrittenItem)
    → other_items (flat_map (leveled_item f) items) ≡ other_items items
others_leveled f [] = refl
others_leveled f (WrittenItem.match_token groups place ∷ items) =
    ap (λ l. WrittenItem.match_token groups place ∷ l) (others_leveled f items)
others_leveled f (WrittenItem.extern_token block ∷ items) =
    ap (λ l. WrittenItem.extern_token block ∷ l) (others_leveled f items)
others_leveled f (WrittenItem.intern_token entries ∷ items) =
    ap (λ l. WrittenItem.intern_token entries ∷ l) (others_leveled f items)
others_leveled f (WrittenItem.nonterminal r ∷ items) =
    no_others (leveled_rules f r) (flat_map (leveled_item f) items) ∙ others_leveled f items
others_leveled f (WrittenItem.import text ∷ items) = ap (λ l. WrittenItem.import text ∷ l) (others_leveled f items)

others_stay : (features : List Text) (w : Grammar) (f : Text → ℕ → Text)
    → other_items (leveled_part f features w).items ≡ other_items w.items
others_stay features w f =
    others_leveled f (resolved_grammar (without_disabled features w)).items
    ∙ others_resolved (defined_names (without_disabled features w)) (without_disabled features w).items
    ∙ others_left features w.items

-- a tokenizer is one of the other items
tokenizer_other : (items : List WrittenItem) (es : List InternEntry) → Among items (WrittenItem.intern_token es)
    → Among (other_items items) (WrittenItem.intern_token es)
tokenizer_other [] es i = absurd i
tokenizer_other (WrittenItem.nonterminal r ∷ items) es (inl e) = absurd (let wrong : ⊥ = cc in wrong)
tokenizer_other (WrittenItem.nonterminal r ∷ items) es (inr i) = tokenizer_other items es i
tokenizer_other (WrittenItem.match_token groups place ∷ items) es (inl e) = inl e
tokenizer_other (WrittenItem.match_token groups place ∷ items) es (inr i) = inr (tokenizer_other items es i)
tokenizer_other (WrittenItem.extern_token block ∷ items) es (inl e) = inl e
tokenizer_other (WrittenItem.extern_token block ∷ items) es (inr i) = inr (tokenizer_other items es i)
tokenizer_other (WrittenItem.intern_token entries ∷ items) es (inl e) = inl e
tokenizer_other (WrittenItem.intern_token entries ∷ items) es (inr i) = inr (tokenizer_other items es i)
tokenizer_other (WrittenItem.import text ∷ items) es (inl e) = inl e
tokenizer_other (WrittenItem.import text ∷ items) es (inr i) = inr (tokenizer_other items es i)

-- and an item
other_there : (items : List WrittenItem) (x : WrittenItem) → Among (other_items items) x → Among items x
other_there [] x i = absurd i
other_there (WrittenItem.nonterminal r ∷ items) x i = inr (other_there items x i)
other_there (WrittenItem.match_token groups place ∷ items) x (inl e) = inl e
other_there (WrittenItem.match_token groups place ∷ items) x (inr i) = inr (other_there items x i)
other_there (WrittenItem.extern_token block ∷ items) x (inl e) = inl e
other_there (WrittenItem.extern_token block ∷ items) x (inr i) = inr (other_there items x i)
other_there (WrittenItem.intern_token entries ∷ items) x (inl e) = inl e
other_there (WrittenItem.intern_token entries ∷ items) x (inr i) = inr (other_there items x i)
other_there (WrittenItem.import text ∷ items) x (inl e) = inl e
other_there (WrittenItem.import text ∷ items) x (inr i) = inr (other_there items x i)

-- no tokenizer is there once macros are expanded
pub no_tokenizer_there : (features : List Text) (w leveled expanded : Grammar) (f : Text → ℕ → Text) → IsReadGrammar w
    → leveled ≡ leveled_part f features w → other_items expanded.items ≡ other_items leveled.items → HasNoTokenizer expanded
no_tokenizer_there features w leveled expanded f read value same es i =
    read.items (WrittenItem.intern_token es)
    (other_there w.items (WrittenItem.intern_token es)
    (subst (λ (l : List WrittenItem). Among l (WrittenItem.intern_token es))
    (same ∙ ap (λ (g : Grammar). other_items g.items) value ∙ others_stay features w f)
    (tokenizer_other expanded.items es i)))
