-- What is left of a grammar that was read tells its own rules; for the law of what levels keep.
use Rattle.std.proofs.Common.{◌≡◌, ℕ, ◌+◌, List, [], ◌∷◌, refl, ap, sym, ◌∙◌, subst, cond, Bool, true, false, inl}
use Rattle.std.proofs.Common.{inr}
use Rattle.std.specs.Prelude.{Some, None, filter, filter_map}
use Rattle.std.specs.List.{cons_option}
use Rattle.lalrpop_grammar_symbols.specs.Symbols.{Text}
use Rattle.lalrpop_grammar.specs.WrittenGrammar.{Alternative, Rule, Origin, WrittenItem, Grammar, rules_of}
use Rattle.lalrpop_grammar_language.specs.Among.{Among}
use Rattle.lalrpop_grammar_language.specs.Enabled.{is_active, at_places}
use Rattle.lalrpop_grammar_language.proofs.PlaceLemmas.{among_map, among_filter}
use Rattle.lalrpop_norm_theory.specs.Between.{enabled_part, enabled_item, alternative_without_cfg, without_disabled}
use Rattle.lalrpop_norm_theory.specs.Premises.{IsReadGrammar, IsReadItem, IsReadRule}
use Rattle.lalrpop_grammar_language.proofs.AmongLemmas.{map_among}
use Rattle.lalrpop_norm_theory.specs.LevelLaws.{TellsOwnRules}

place_told : (n : Text) (k : ℕ) (alternatives : List Alternative) (p : Origin × Alternative) → Among (at_places n k alternatives) p →
    (place : ℕ) × (p.0 ≡ Origin.alternative n [] place)
place_told n k [] p i = absurd i
place_told n k (a ∷ rest) p (inl e) = (k, ap (λ z. z.0) (sym e))
place_told n k (a ∷ rest) p (inr i) = place_told n (k + 1) rest p i

read_rule_tells : (features : List Text) (r : Rule) → IsReadRule r → (a : Alternative) →
    Among (enabled_part features r).alternatives a →
    (place : ℕ) × (a.origin ≡ Origin.alternative r.name [] place)
read_rule_tells features r w a i =
    let u = among_map alternative_without_cfg (filter (λ b. is_active features b.attributes) r.alternatives) a i in
    let v = among_filter (λ b. is_active features b.attributes) r.alternatives u.0 u.1 in
    let told = place_told r.name 0 r.alternatives (u.0.origin, u.0)
    (subst (λ l. Among {A = Origin × Alternative} l (u.0.origin, u.0)) w.places
    (map_among (λ b. (b.origin, b)) r.alternatives u.0 v.0)) in
    (told.0, ap (λ b. b.origin) (sym u.2) ∙ told.1)

items_tell : (features : List Text) (items : List WrittenItem) → ((i : WrittenItem) → Among items i → IsReadItem i) → (r : Rule)
    (a : Alternative) → Among (rules_of (filter_map (enabled_item features) items)) r → Among r.alternatives a →
    (place : ℕ) × (a.origin ≡ Origin.alternative r.name [] place)
items_tell features [] w r a i j = absurd i
items_tell features (WrittenItem.match_token entries place ∷ items) w r a i j = items_tell features items (λ x h. w x (inr h)) r a i j
items_tell features (WrittenItem.extern_token block ∷ items) w r a i j = items_tell features items (λ x h. w x (inr h)) r a i j
items_tell features (WrittenItem.intern_token entries ∷ items) w r a i j = items_tell features items (λ x h. w x (inr h)) r a i j
items_tell features (WrittenItem.import text ∷ items) w r a i j = items_tell features items (λ x h. w x (inr h)) r a i j
items_tell features (WrittenItem.nonterminal q ∷ items) w r a i j =
    go (is_active features q.attributes) i (λ k. items_tell features items (λ x h. w x (inr h)) r a k j)
  where
    others : List WrittenItem
    others = filter_map (enabled_item features) items

    go : (b : Bool) → Among (rules_of (cons_option (cond b (Some (WrittenItem.nonterminal (enabled_part features q))) None) others)) r →
        (Among (rules_of others) r → (place : ℕ) × (a.origin ≡ Origin.alternative r.name [] place)) →
        (place : ℕ) × (a.origin ≡ Origin.alternative r.name [] place)
    go true (inl e) later =
        let there : Among (enabled_part features q).alternatives a = subst (λ p. Among p.alternatives a) (sym e) j in
        let u = read_rule_tells features q (w (WrittenItem.nonterminal q) (inl refl)) a there in
        (u.0, u.1 ∙ ap (λ p. Origin.alternative p.name [] u.0) e)
    go true (inr k) later = later k
    go false k later = later k

-- each alternative that is left tells a place of its own rule
pub read_tells : (features : List Text) (g : Grammar) → IsReadGrammar g → TellsOwnRules (without_disabled features g)
read_tells features g w r a i j = items_tell features g.items w.items r a i j
