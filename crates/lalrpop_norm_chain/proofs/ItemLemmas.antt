-- Match blocks and tokenizers stay as they are through dropping, resolving and levels; for the laws of what passes leave.
use Rattle.std.proofs.Common.{◌≡◌, ℕ, List, [], ◌∷◌, ◌++◌, refl, ap, ◌∙◌, cond, Bool, true, false, inl, inr}
use Rattle.std.specs.Prelude.{Some, None, map, flat_map, filter_map}
use Rattle.std.specs.List.{cons_option}
use Rattle.lalrpop_grammar_symbols.specs.Symbols.{Text}
use Rattle.lalrpop_grammar.specs.WrittenGrammar.{WrittenItem, Rule, Grammar}
use Rattle.lalrpop_grammar_language.specs.Among.{Among}
use Rattle.lalrpop_grammar_language.specs.Enabled.{is_active}
use Rattle.lalrpop_norm_theory.specs.Between.{enabled_part, enabled_item, without_disabled}
use Rattle.lalrpop_norm_theory.specs.Premises.{IsReadGrammar, IsReadItem}
use Rattle.lalrpop_norm_theory.specs.Resolving.{DefinedNames, defined_names, resolved_item, resolved_grammar}
use Rattle.lalrpop_norm_theory.specs.LeveledGrammar.{leveled_rules, leveled_item, leveled_grammar}
use Rattle.lalrpop_norm_token_check.specs.Blocks.{block_groups}
use Rattle.lalrpop_norm_chain.specs.PremiseLaws.{entries_of_items}

-- match blocks

block_left : (features : List Text) (items : List WrittenItem) →
    block_groups (filter_map (enabled_item features) items) ≡ block_groups items
block_left features [] = refl
block_left features (WrittenItem.match_token groups place ∷ items) = refl
block_left features (WrittenItem.extern_token block ∷ items) = block_left features items
block_left features (WrittenItem.intern_token entries ∷ items) = block_left features items
block_left features (WrittenItem.import text ∷ items) = block_left features items
block_left features (WrittenItem.nonterminal r ∷ items) = go (is_active features r.attributes) (block_left features items)
  where
    others : List WrittenItem
    others = filter_map (enabled_item features) items

    go : (b : Bool) → block_groups others ≡ block_groups items →
        block_groups (cons_option (cond b (Some (WrittenItem.nonterminal (enabled_part features r))) None) others) ≡ block_groups items
    go true h = h
    go false h = h

block_resolved : (d : DefinedNames) (items : List WrittenItem) → block_groups (map (resolved_item d) items) ≡ block_groups items
block_resolved d [] = refl
block_resolved d (WrittenItem.match_token groups place ∷ items) = refl
block_resolved d (WrittenItem.extern_token block ∷ items) = block_resolved d items
block_resolved d (WrittenItem.intern_token entries ∷ items) = block_resolved d items
block_resolved d (WrittenItem.nonterminal r ∷ items) = block_resolved d items
block_resolved d (WrittenItem.import text ∷ items) = block_resolved d items

rules_alone : (rs : List Rule) (items : List WrittenItem) → block_groups (map WrittenItem.nonterminal rs ++ items) ≡ block_groups items
rules_alone [] items = refl
rules_alone (r ∷ rs) items = rules_alone rs items

block_leveled : (f : Text → ℕ → Text) (items : List WrittenItem) →
    block_groups (flat_map (leveled_item f) items) ≡ block_groups items
block_leveled f [] = refl
block_leveled f (WrittenItem.match_token groups place ∷ items) = refl
block_leveled f (WrittenItem.extern_token block ∷ items) = block_leveled f items
block_leveled f (WrittenItem.intern_token entries ∷ items) = block_leveled f items
block_leveled f (WrittenItem.nonterminal r ∷ items) =
    rules_alone (leveled_rules f r) (flat_map (leveled_item f) items) ∙ block_leveled f items
block_leveled f (WrittenItem.import text ∷ items) = block_leveled f items

-- the groups of a grammar's match block stay, without what is disabled, with resolved names and with levels as rules
pub block_stays : (features : List Text) (w : Grammar) (f : Text → ℕ → Text) →
    block_groups (leveled_grammar f (resolved_grammar (without_disabled features w))).items ≡ block_groups w.items
block_stays features w f =
    block_leveled f (resolved_grammar (without_disabled features w)).items
    ∙ block_resolved (defined_names (without_disabled features w)) (without_disabled features w).items
    ∙ block_left features w.items

-- tokenizers

entries_left : (features : List Text) (items : List WrittenItem) →
    entries_of_items (filter_map (enabled_item features) items) ≡ entries_of_items items
entries_left features [] = refl
entries_left features (WrittenItem.match_token groups place ∷ items) = entries_left features items
entries_left features (WrittenItem.extern_token block ∷ items) = entries_left features items
entries_left features (WrittenItem.intern_token entries ∷ items) = ap (λ l. entries ++ l) (entries_left features items)
entries_left features (WrittenItem.import text ∷ items) = entries_left features items
entries_left features (WrittenItem.nonterminal r ∷ items) = go (is_active features r.attributes) (entries_left features items)
  where
    others : List WrittenItem
    others = filter_map (enabled_item features) items

    go : (b : Bool) → entries_of_items others ≡ entries_of_items items →
        entries_of_items (cons_option (cond b (Some (WrittenItem.nonterminal (enabled_part features r))) None) others)
        ≡ entries_of_items items
    go true h = h
    go false h = h

entries_resolved : (d : DefinedNames) (items : List WrittenItem) →
    entries_of_items (map (resolved_item d) items) ≡ entries_of_items items
entries_resolved d [] = refl
entries_resolved d (WrittenItem.match_token groups place ∷ items) = entries_resolved d items
entries_resolved d (WrittenItem.extern_token block ∷ items) = entries_resolved d items
entries_resolved d (WrittenItem.intern_token entries ∷ items) = ap (λ l. entries ++ l) (entries_resolved d items)
entries_resolved d (WrittenItem.nonterminal r ∷ items) = entries_resolved d items
entries_resolved d (WrittenItem.import text ∷ items) = entries_resolved d items

no_entries : (rs : List Rule) (items : List WrittenItem) →
    entries_of_items (map WrittenItem.nonterminal rs ++ items) ≡ entries_of_items items
no_entries [] items = refl
no_entries (r ∷ rs) items = no_entries rs items

entries_leveled : (f : Text → ℕ → Text) (items : List WrittenItem) →
    entries_of_items (flat_map (leveled_item f) items) ≡ entries_of_items items
entries_leveled f [] = refl
entries_leveled f (WrittenItem.match_token groups place ∷ items) = entries_leveled f items
entries_leveled f (WrittenItem.extern_token block ∷ items) = entries_leveled f items
entries_leveled f (WrittenItem.intern_token entries ∷ items) = ap (λ l. entries ++ l) (entries_leveled f items)
entries_leveled f (WrittenItem.nonterminal r ∷ items) =
    no_entries (leveled_rules f r) (flat_map (leveled_item f) items) ∙ entries_leveled f items
entries_leveled f (WrittenItem.import text ∷ items) = entries_leveled f items

none_read : (items : List WrittenItem) → ((i : WrittenItem) → Among items i → IsReadItem i) → entries_of_items items ≡ []
none_read [] h = refl
none_read (WrittenItem.match_token groups place ∷ items) h = none_read items (λ i k. h i (inr k))
none_read (WrittenItem.extern_token block ∷ items) h = none_read items (λ i k. h i (inr k))
none_read (WrittenItem.intern_token entries ∷ items) h = absurd (h (WrittenItem.intern_token entries) (inl refl))
none_read (WrittenItem.nonterminal r ∷ items) h = none_read items (λ i k. h i (inr k))
none_read (WrittenItem.import text ∷ items) h = none_read items (λ i k. h i (inr k))

-- no tokenizer is there when macros are expanded
pub no_tokenizer : (features : List Text) (w : Grammar) (f : Text → ℕ → Text) → IsReadGrammar w →
    entries_of_items (leveled_grammar f (resolved_grammar (without_disabled features w))).items ≡ []
no_tokenizer features w f read =
    entries_leveled f (resolved_grammar (without_disabled features w)).items
    ∙ entries_resolved (defined_names (without_disabled features w)) (without_disabled features w).items
    ∙ entries_left features w.items ∙ none_read w.items read.items
