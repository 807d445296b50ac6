-- What is left of a grammar that was read has the rules of the enabled grammar; for dropping what is disabled.
use Rattle.std.specs.Str.{bytes_eq}
use Rattle.std.proofs.Common.{◌≡◌, List, [], ◌∷◌, refl, ap, sym, ◌∙◌, cond, Bool, true, false, inl, inr}
use Rattle.std.specs.Prelude.{Some, None, map, filter, filter_map, flat_map, ◌++◌, not}
use Rattle.std.specs.List.{cons_option, list_any}
use Rattle.std.specs.Prelude.{codes, ◌||◌}
use Rattle.lalrpop_grammar_language.proofs.PlaceLemmas.{same_text-eq}
use Rattle.lalrpop_grammar_symbols.specs.Symbols.{Text}
use Rattle.lalrpop_grammar.specs.WrittenGrammar.{Attr, attr_id, Alternative, Rule, Origin, WrittenItem, rules_of}
use Rattle.lalrpop_grammar_language.specs.Among.{Among}
use Rattle.lalrpop_grammar_language.specs.Enabled.{EnabledRule, Choice, has_attr, is_active, choice_of}
use Rattle.lalrpop_grammar_language.specs.Enabled.{enabled_choices, enabled_rule, bares_of, bare_of}
use Rattle.lalrpop_norm_theory.specs.Between.{with_origins, rule_between, is_cfg, without_cfg, alternative_without_cfg}
use Rattle.lalrpop_norm_theory.specs.Between.{enabled_part, enabled_item, choice_without_cfg, rule_without_cfg}
use Rattle.lalrpop_norm_theory.specs.Premises.{IsReadItem, IsReadRule}

-- the alternatives that are left, by the choices that they tell, are the enabled ones
kept_choices : (features : List Text) (alternatives : List Alternative) →
    map choice_of (with_origins (map alternative_without_cfg (filter (λ a. is_active features a.attributes) alternatives)))
    ≡ map choice_without_cfg (enabled_choices features (with_origins alternatives))
kept_choices features [] = refl
kept_choices features (a ∷ rest) = go (is_active features a.attributes) (kept_choices features rest)
  where
    active : List Alternative
    active = filter (λ b. is_active features b.attributes) rest

    told_active : List (Origin × Alternative)
    told_active = filter (λ p. is_active features p.1.attributes) (with_origins rest)

    go : (b : Bool) →
        map choice_of (with_origins (map alternative_without_cfg active)) ≡ map choice_without_cfg (map choice_of told_active) →
        map choice_of (with_origins (map alternative_without_cfg (cond b (a ∷ active) active)))
        ≡ map choice_without_cfg (map choice_of (cond b ((a.origin, a) ∷ told_active) told_active))
    go true h = ap (λ l. choice_without_cfg (choice_of (a.origin, a)) ∷ l) h
    go false h = h

-- whether a rule is inlined isn't asked of cfg attributes
kept_mark : (attributes : List Attr) → has_attr (codes "inline") (without_cfg attributes) ≡ has_attr (codes "inline") attributes
kept_mark [] = refl
kept_mark (a ∷ rest) = go (is_cfg a) refl (kept_mark rest)
  where
    marks : Attr → Bool
    marks b = bytes_eq (attr_id b) (codes "inline")

    no_mark : bytes_eq (attr_id a) (codes "cfg") ≡ true → bytes_eq (attr_id a) (codes "inline") ≡ false
    no_mark e =
        ap (λ t. bytes_eq t (codes "inline"))
        (same_text-eq (attr_id a) (codes "cfg") e)

    go : (b : Bool) → is_cfg a ≡ b → list_any marks (without_cfg rest) ≡ list_any marks rest →
        list_any marks (cond (not b) (a ∷ without_cfg rest) (without_cfg rest))
        ≡ (marks a || list_any marks rest)
    go true e h = h ∙ ap (λ m. m || list_any marks rest) (sym (no_mark e))
    go false e h = ap (λ l. marks a || l) h

-- a rule that is left stands for the enabled rule
rule_left : (features : List Text) (r : Rule) → IsReadRule r →
    rule_between (enabled_part features r) ≡ rule_without_cfg (enabled_rule features r)
rule_left features r w =
    ap (λ m. record {
      name = r.name;
      public = r.public;
      inlined = m;
      parameters = r.parameters;
      declared = r.declared;
      choices = map choice_of (with_origins (map alternative_without_cfg (filter (λ a. is_active features a.attributes) r.alternatives)));
    }) (kept_mark r.attributes)
    ∙ ap (λ cs. rule_with cs) (kept_choices features r.alternatives
    ∙ ap (λ ps. map choice_without_cfg (enabled_choices features ps)) w.places)
  where
    rule_with : List Choice → EnabledRule
    rule_with cs = record {
      name = r.name;
      public = r.public;
      inlined = has_attr (codes "inline") r.attributes;
      parameters = r.parameters;
      declared = r.declared;
      choices = cs;
    }

-- what is left has the enabled rules, without the attributes that were asked
pub rules_left : (features : List Text) (items : List WrittenItem) → ((i : WrittenItem) → Among items i → IsReadItem i) →
    map rule_between (rules_of (filter_map (enabled_item features) items))
    ≡ map rule_without_cfg (map (enabled_rule features) (filter (λ r. is_active features r.attributes) (rules_of items)))
rules_left features [] w = refl
rules_left features (WrittenItem.match_token entries place ∷ items) w = rules_left features items (λ i h. w i (inr h))
rules_left features (WrittenItem.extern_token block ∷ items) w = rules_left features items (λ i h. w i (inr h))
rules_left features (WrittenItem.intern_token entries ∷ items) w = rules_left features items (λ i h. w i (inr h))
rules_left features (WrittenItem.import text ∷ items) w = rules_left features items (λ i h. w i (inr h))
rules_left features (WrittenItem.nonterminal r ∷ items) w =
    go (is_active features r.attributes) (rule_left features r (w (WrittenItem.nonterminal r) (inl refl)))
    (rules_left features items (λ i h. w i (inr h)))
  where
    others : List WrittenItem
    others = filter_map (enabled_item features) items

    active : List Rule
    active = filter (λ q. is_active features q.attributes) (rules_of items)

    go : (b : Bool) → rule_between (enabled_part features r) ≡ rule_without_cfg (enabled_rule features r) →
        map rule_between (rules_of others) ≡ map rule_without_cfg (map (enabled_rule features) active) →
        map rule_between (rules_of (cons_option (cond b (Some (WrittenItem.nonterminal (enabled_part features r))) None) others))
        ≡ map rule_without_cfg (map (enabled_rule features) (cond b (r ∷ active) active))
    go true e h = ap (λ q. q ∷ map rule_between (rules_of others)) e ∙ ap (λ l. rule_without_cfg (enabled_rule features r) ∷ l) h
    go false e h = h

-- and the mapped bare names
pub bares_left : (features : List Text) (items : List WrittenItem) →
    bares_of (filter_map (enabled_item features) items) ≡ bares_of items
bares_left features [] = refl
bares_left features (WrittenItem.match_token entries place ∷ items) =
    ap (λ l. flat_map (flat_map bare_of) entries ++ l) (bares_left features items)
bares_left features (WrittenItem.extern_token block ∷ items) = bares_left features items
bares_left features (WrittenItem.intern_token entries ∷ items) = bares_left features items
bares_left features (WrittenItem.import text ∷ items) = bares_left features items
bares_left features (WrittenItem.nonterminal r ∷ items) = go (is_active features r.attributes) (bares_left features items)
  where
    others : List WrittenItem
    others = filter_map (enabled_item features) items

    go : (b : Bool) → bares_of others ≡ bares_of items →
        bares_of (cons_option (cond b (Some (WrittenItem.nonterminal (enabled_part features r))) None) others) ≡ bares_of items
    go true h = h
    go false h = h
