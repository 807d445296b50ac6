-- Each production of a written grammar does one thing, which its label tells; for the law of actions.
use Rattle.std.proofs.Common.{◌≡◌, ℕ, ◌≤◌, ◌+◌, List, [], ◌∷◌, ap, sym, ◌∙◌, subst, inl, inr, arith}
use Rattle.std.proofs.Common.{Bool, true}
use Rattle.std.specs.Prelude.{Option, filter}
use Rattle.lalrpop_grammar_symbols.specs.Symbols.{Closed, Closeds, Text}
use Rattle.lalrpop_grammar.specs.WrittenGrammar.{Action, Alternative, Grammar, Origin, Rule, rules_of}
use Rattle.lalrpop_grammar_language.specs.Among.{Among}
use Rattle.lalrpop_grammar_language.specs.Admitting.{argument_list}
use Rattle.lalrpop_grammar_language.specs.Enabled.{Choice, EnabledGrammar, EnabledRule, IsRule, at_places, choice_of}
use Rattle.lalrpop_grammar_language.specs.Enabled.{enabled_grammar, enabled_rule, has_name, is_active}
use Rattle.lalrpop_grammar_language.specs.Expansion.{ByAlternative, ByPassDown, Nonterminal, Produces, RightSide, origin_with}
use Rattle.lalrpop_grammar_language.proofs.ComparisonLemmas.{same_text-refl}
use Rattle.lalrpop_grammar_language.proofs.PlaceLemmas.{among_filter, among_map, places_told}
use Rattle.lalrpop_norm_theory.proofs.LevelLemmas.{keeps}
use Rattle.lalrpop_norm_chain.specs.Actions.{ChoiceDoes, DoesByChoice, IsWrittenAction, ProductionsDoOneThing}

-- no two alternatives of a rule tell one place

at_later : (n : Text) (k : ℕ) (l : List Alternative) (p : Origin × Alternative) → Among (at_places n k l) p
    → (j : ℕ) × (k ≤ j) × (p.0 ≡ Origin.alternative n [] j)
at_later n k [] p i = absurd i
at_later n k (a ∷ l) p (inl e) = (k, omega arith, ap (λ (q : Origin × Alternative). q.0) (sym e))
at_later n k (a ∷ l) p (inr i) = let u = at_later n (k + 1) l p i in let le = u.1 in (u.0, omega (arith, le), u.2)

place_is : (n : Text) (i j : ℕ) → Origin.alternative n [] i ≡ Origin.alternative n [] j → i ≡ j
place_is n i j e = cc

not_later : (n : Text) (k : ℕ) (l : List Alternative) (p : Origin × Alternative) → Among (at_places n (k + 1) l) p
    → Origin.alternative n [] k ≡ p.0 → ⊥
not_later n k l p i e =
    let u = at_later n (k + 1) l p i in
    let le = u.1 in
    let same : k ≡ u.0 = place_is n k u.0 (e ∙ u.2) in
    omega (arith, le, same)

-- so no two are at one place
pub one_at : (n : Text) (k : ℕ) (l : List Alternative) (p q : Origin × Alternative) → Among (at_places n k l) p
    → Among (at_places n k l) q → p.0 ≡ q.0 → p ≡ q
one_at n k [] p q i j e = absurd i
one_at n k (a ∷ l) p q (inl f) (inl h) e = sym f ∙ h
one_at n k (a ∷ l) p q (inl f) (inr j) e = absurd (not_later n k l q j (ap (λ (x : Origin × Alternative). x.0) f ∙ e))
one_at n k (a ∷ l) p q (inr i) (inl h) e = absurd (not_later n k l p i (ap (λ (x : Origin × Alternative). x.0) h ∙ sym e))
one_at n k (a ∷ l) p q (inr i) (inr j) e = one_at n (k + 1) l p q i j e

one_choice : (features : List Text) (r : Rule) (c d : Choice) → Among (enabled_rule features r).choices c
    → Among (enabled_rule features r).choices d → c.origin ≡ d.origin → c ≡ d
one_choice features r c d i j e =
    let at = at_places r.name 0 r.alternatives in
    let u = among_map choice_of (filter (λ (p : Origin × Alternative). is_active features p.1.attributes) at) c i in
    let v = among_map choice_of (filter (λ (p : Origin × Alternative). is_active features p.1.attributes) at) d j in
    let a = among_filter (λ (p : Origin × Alternative). is_active features p.1.attributes) at u.0 u.1 in
    let b = among_filter (λ (p : Origin × Alternative). is_active features p.1.attributes) at v.0 v.1 in
    let told : u.0.0 ≡ v.0.0 = ap (λ (x : Choice). x.origin) u.2 ∙ e ∙ sym (ap (λ (x : Choice). x.origin) v.2) in
    sym u.2 ∙ ap choice_of (one_at r.name 0 r.alternatives u.0 v.0 a.0 b.0 told) ∙ v.2

module _ (finds : Text → Text → Option Bool) (features : List Text) (w : Grammar) where
  abbrev g : EnabledGrammar
  g = enabled_grammar finds features w

  rule_choice : (r : EnabledRule) → Among g.rules r → (c d : Choice) → Among r.choices c → Among r.choices d
      → c.origin ≡ d.origin → c ≡ d
  rule_choice r i =
      let q = among_map (enabled_rule features) (filter (λ (p : Rule). is_active features p.attributes) (rules_of w.items)) r i in
      subst (λ (e : EnabledRule). (c d : Choice) → Among e.choices c → Among e.choices d → c.origin ≡ d.origin → c ≡ d) q.2
      (one_choice features q.0)

  -- a rule that is there once is each one of its name
  only_named : (n : Text) (r q : EnabledRule) → IsRule g n r → Among g.rules q → q.name ≡ n → r ≡ q
  only_named n r q is i e =
      go (subst (λ (l : List EnabledRule). Among l q) is
      (keeps (has_name n) g.rules q i (subst (λ (t : Text). has_name t q ≡ true) e (same_text-refl q.name))))
    where
      go : Among (r ∷ []) q → r ≡ q
      go (inl f) = f
      go (inr m) = absurd m

  one_written : (n : Text) (r : EnabledRule) (place : ℕ) (a b : Action) → IsRule g n r → IsWrittenAction g n place a
      → IsWrittenAction g n place b → a ≡ b
  one_written n r place a b is h k =
      let first : r ≡ h.rule = only_named n r h.rule is h.rule_there h.name_is in
      let second : r ≡ k.rule = only_named n r k.rule is k.rule_there k.name_is in
      let in_first : Among h.rule.choices k.choice =
      subst (λ (e : EnabledRule). Among e.choices k.choice) (sym second ∙ first) k.choice_there in
      let same = rule_choice h.rule h.rule_there h.choice k.choice h.choice_there in_first (h.at ∙ sym k.at) in
      sym h.action_is ∙ ap (λ (c : Choice). c.action) same ∙ k.action_is

  by_alternative : (n : Text) (args : Closeds) (level : Option ℕ) (o : Origin) (side : RightSide) (a b : Action)
      → ByAlternative g n args level o side → DoesByChoice g o a → DoesByChoice g o b → a ≡ b
  by_alternative n args level o side a b m h k =
      let told = places_told finds features w n args m.rule m.choice m.fits in
      let at : o ≡ Origin.alternative n (argument_list g.spelled args) told.0 =
      m.origin_is ∙ ap (origin_with (argument_list g.spelled args)) told.1 in
      one_written n m.rule told.0 a b m.fits.rule (subst (λ (x : Origin). DoesByChoice g x a) at h)
      (subst (λ (x : Origin). DoesByChoice g x b) at k)

  by_pass : (n : Text) (args : Closeds) (level : Option ℕ) (o : Origin) (side : RightSide) (a b : Action)
      → ByPassDown g n args level o side → DoesByChoice g o a → DoesByChoice g o b → a ≡ b
  by_pass n args level o side a b m h k =
      let first : a ≡ Action.default = subst (λ (x : Origin). DoesByChoice g x a) m.origin_is h in
      let second : b ≡ Action.default = subst (λ (x : Origin). DoesByChoice g x b) m.origin_is k in
      first ∙ sym second

  one_thing : (x : Nonterminal) (o : Origin) (side : RightSide) (a b : Action) → Produces g x o side → ChoiceDoes g x o a
      → ChoiceDoes g x o b → a ≡ b
  one_thing (Nonterminal.start n) o side a b p h k = h ∙ sym k
  one_thing (Nonterminal.closed (Closed.call n args level)) o side a b (inl m) h k = by_alternative n args level o side a b m h k
  one_thing (Nonterminal.closed (Closed.call n args level)) o side a b (inr m) h k = by_pass n args level o side a b m h k
  one_thing (Nonterminal.closed (Closed.repeat op x)) o side a b p h k = h ∙ sym k
  one_thing (Nonterminal.closed (Closed.group xs)) o side a b p h k = h ∙ sym k
  one_thing (Nonterminal.closed Closed.lookahead) o side a b p h k = h ∙ sym k
  one_thing (Nonterminal.closed Closed.lookbehind) o side a b p h k = h ∙ sym k
  one_thing (Nonterminal.closed (Closed.terminal t)) o side a b p h k = absurd h
  one_thing (Nonterminal.closed (Closed.choose x)) o side a b p h k = absurd h
  one_thing (Nonterminal.closed (Closed.name m n x)) o side a b p h k = absurd h
  one_thing (Nonterminal.closed Closed.faulty) o side a b p h k = absurd h

-- a production of a written grammar under features does one thing: its label tells which
pub productions_do_one : ProductionsDoOneThing
productions_do_one finds features w x o side a b p h k = one_thing finds features w x o side a b p h k
