-- Names of a table that follow by its rules' clauses are those with trees, and those that are reached: for marks of names.
use Rattle.std.proofs.Common.{◌≡◌, ◌∙◌, ◌⊎◌, ℕ, ◌<◌, Bool, List, []}
use Rattle.std.proofs.Common.{◌∷◌, map}
use Rattle.std.proofs.Common.{◌-◌}
use Rattle.std.proofs.Common.{refl, sym, ap, subst, inl, inr, ⊎_elim, arith, Contains, Option, Some, nat_lt}
use Rattle.std.specs.Prelude.{flat_map}
use Rattle.std.proofs.lemmas.Bool.{lt-ltb, ltb-true}
use Rattle.lalrpop_grammar_symbols.specs.Symbols.{Text}
use Rattle.lalrpop_grammar_symbols.specs.declared.names.NonterminalString.{NonterminalString}
use Rattle.lalrpop_lr1_theory.specs.Productions as theory
use Rattle.lalrpop_lr1_theory.proofs.ListLemmas.{contains_get, contains_here, contains_later, contains_split, get_contains}
use Rattle.lalrpop_lr1_theory.proofs.StepLemmas.{some_same}
use Rattle.lalrpop_lr1_theory.specs.NameClosures.{IsNameReached, IsProductive, by_production, seeded, stepped}
use Rattle.lalrpop_lr1_core.proofs.MemberLemmas.{filter_has, in_filter, in_map, map_has}
use Rattle.lalrpop_lr1_core.proofs.NoConflictLemmas.{at_mapped}
use Rattle.lalrpop_lr1_first.specs.FirstNumbers.{name_count, rule_of}
use Rattle.lalrpop_lr1_first.specs.NumberedGrammars.{IsNumberTable, IsSeenIn, table_names, table_productions}
use Rattle.lalrpop_lr1_first.specs.Numbers.{IsRuleOf, RuleByNumbers, SpellsSymbols}
use Rattle.lalrpop_lr1_first.specs.Tables.{rest_of, symbol_of_number}
use Rattle.lalrpop_lr1_first.specs.declared.numbered.Numbered.{Numbered}
use Rattle.lalrpop_lr1_first.specs.declared.place.NumberedRule.{NumberedRule}
use Rattle.lalrpop_lr1_first.proofs.TableLemmas.{get_mapped, name_at, rules_are, table_numbering}
use Rattle.lalrpop_lr1_barren.specs.Clauses.{Follows, IsMarked, by_clause, marked}
use Rattle.lalrpop_lr1_barren.specs.NameMarks.{IsNumberOf}
use Rattle.lalrpop_lr1_barren.specs.RuleClauses.{names_of_rule, reach_of_rule, tree_of_rule}
use Rattle.lalrpop_lr1_theory.proofs.NameLemmas.{no_element}
use Rattle.lalrpop_lr1_core.proofs.GraphLemmas.{in_flat, flat_has}

name_is : (A B : Text) → theory.nonterminal A ≡ theory.nonterminal B → A ≡ B
name_is A B e = cc

module _ (at : ℕ → Option theory.Symbol) where
  -- a symbol that is spelled has a number, and a number is a symbol's
  spelled_back : (ns : List ℕ) (xs : List theory.Symbol) → SpellsSymbols at ns xs → (x : theory.Symbol) → Contains xs x →
      (s : ℕ) × Contains ns s × (at s ≡ Some x)
  spelled_back [] [] h x c = absurd (no_element x c)
  spelled_back [] (y ∷ ys) h x c = absurd h
  spelled_back (s ∷ ns) [] h x c = absurd h
  spelled_back (s ∷ ns) (y ∷ ys) h x c = go (contains_split y x ys c) (spelled_back ns ys h.1 x)
    where
      go : (y ≡ x) ⊎ Contains ys x → (Contains ys x → (k : ℕ) × Contains ns k × (at k ≡ Some x)) →
          (k : ℕ) × Contains (s ∷ ns) k × (at k ≡ Some x)
      go (inl e) rec = (s, contains_here s ns, h.0 ∙ ap Some e)
      go (inr d) rec =
          let r : (k : ℕ) × Contains ns k × (at k ≡ Some x) = rec d in (r.0, contains_later s r.0 ns r.1, r.2)

  spelled_forth : (ns : List ℕ) (xs : List theory.Symbol) → SpellsSymbols at ns xs → (s : ℕ) → Contains ns s →
      (x : theory.Symbol) × Contains xs x × (at s ≡ Some x)
  spelled_forth [] xs h s c = absurd (no_element s c)
  spelled_forth (k ∷ ns) [] h s c = absurd h
  spelled_forth (k ∷ ns) (y ∷ ys) h s c = go (contains_split k s ns c) (spelled_forth ns ys h.1 s)
    where
      go : (k ≡ s) ⊎ Contains ns s → (Contains ns s → (x : theory.Symbol) × Contains ys x × (at s ≡ Some x)) →
          (x : theory.Symbol) × Contains (y ∷ ys) x × (at s ≡ Some x)
      go (inl e) rec = (y, contains_here y ys, ap at (sym e) ∙ h.0)
      go (inr d) rec =
          let r : (x : theory.Symbol) × Contains ys x × (at s ≡ Some x) = rec d in (r.0, contains_later y r.0 ys r.1, r.2)

module _ (table : Numbered) (is : IsNumberTable table) where
  abbrev at : ℕ → Option theory.Symbol
  at = symbol_of_number (table_names table) table.terminals.now

  abbrev G : theory.Production → Type 0
  G = IsSeenIn (table_productions table)

  abbrev side : NumberedRule → List ℕ
  side rule = rest_of table.places.items rule.start

  -- the names on a rule's right side are those of the production
  pub record IsRuleThere (rule : NumberedRule) (p : theory.Production) : Type 0 where
    pub listed : Contains table.rules.items rule
    pub left : at rule.left ≡ Some (theory.nonterminal p.left)
    pub right : SpellsSymbols at (side rule) p.right

  pub production_of : (rule : NumberedRule) → Contains table.rules.items rule → (p : theory.Production) × G p × IsRuleThere rule p
  production_of rule c =
      let k = contains_get table.rules.items rule c in
      let r = (rules_are table is).sound k.0 (rule_of table.places.items rule)
      (get_mapped (rule_of table.places.items) table.rules.items k.0 rule k.1) in
      (r.0, r.1, record { listed = c; left = r.2.left; right = r.2.right })

  pub rule_there : (p : theory.Production) → G p → (rule : NumberedRule) × IsRuleThere rule p
  rule_there p g =
      let r = (rules_are table is).all p g in
      let m = at_mapped (rule_of table.places.items) table.rules.items r.0 r.1 r.2 in
      let own : IsRuleOf at (rule_of table.places.items m.0) p = subst (λ (x : RuleByNumbers). IsRuleOf at x p) (sym m.2) r.3 in
      (m.0, record { listed = get_contains table.rules.items r.0 m.0 m.1; left = own.left; right = own.right })

  name_among : (rule : NumberedRule) (s : ℕ) (B : Text) → Contains (side rule) s → IsNumberOf table s B →
      Contains (names_of_rule table rule) s
  name_among rule s B c e =
      filter_has (λ k. nat_lt k (name_count table)) (side rule) s
      (lt-ltb s (name_count table) ((table_numbering table is).name_below s B e)) c

  -- a number among the names is a name's on the right side
  among_name : (rule : NumberedRule) (p : theory.Production) (s : ℕ) → IsRuleThere rule p → Contains (names_of_rule table rule) s →
      (B : Text) × Contains p.right (theory.nonterminal B) × IsNumberOf table s B
  among_name rule p s r c =
      let h = in_filter (λ k. nat_lt k (name_count table)) (side rule) s c in
      let x = spelled_forth at (side rule) p.right r.right s h.1 in
      go x.0 x.1 x.2 (ltb-true s (name_count table) h.0)
    where
      go : (x : theory.Symbol) → Contains p.right x → at s ≡ Some x → s < name_count table →
          (B : Text) × Contains p.right (theory.nonterminal B) × IsNumberOf table s B
      go (theory.nonterminal B) d e l = (B, d, e)
      go (theory.terminal t) d e l = let j = (table_numbering table is).terminal_at s t e in absurd (omega (arith, j.1, l))

  pub one_number : (s t : ℕ) (A : Text) → IsNumberOf table s A → IsNumberOf table t A → s ≡ t
  one_number s t A e f = (table_numbering table is).name_once s t A e f

  one_name : (s : ℕ) (A B : Text) → IsNumberOf table s A → IsNumberOf table s B → A ≡ B
  one_name s A B e f = name_is A B (some_same (theory.nonterminal A) (theory.nonterminal B) (sym e ∙ f))

  -- a productive name is one of the table's, and so is each that one of them reaches
  pub productive_there : (n : NonterminalString) → IsProductive G n.0 → Contains (table_names table) n
  productive_there n h = go n.0 refl h
    where
      go : (A : Text) → A ≡ n.0 → IsProductive G A → Contains (table_names table) n
      go A e (by_production p g f) =
          let r = rule_there p g in
          let m = name_at table.terminals.now is.terminals (table_names table) is.names r.0.left p.left r.1.left in
          let same : m.0 ≡ n = ap (λ (t : List ℕ). record { 0 = t }) (m.2 ∙ e) in
          subst (Contains (table_names table)) same (get_contains (table_names table) r.0.left m.0 m.1)

  pub reached_number : (S : Text) (start : ℕ) → IsNumberOf table start S → {A : Text} → IsNameReached G S A →
      (s : ℕ) × IsNumberOf table s A
  reached_number S start e (seeded A h) = (start, e ∙ ap (λ B. Some (theory.nonterminal B)) (sym h))
  reached_number S start e (stepped A h k) =
      let r = rule_there k.production k.of_grammar in
      let b = spelled_back at (side r.0) k.production.right r.1.right (theory.nonterminal A) k.mentioned in
      (b.0, b.2)

  module _ (none : List Bool) (empty : (n : ℕ) → IsMarked none n → ⊥) where
    abbrev HasTree : ℕ → Type 0
    HasTree = Follows (map (tree_of_rule table) table.rules.items) none

    -- what follows by the clauses of trees is productive
    pub tree_productive : {s : ℕ} → HasTree s → (A : Text) → IsNumberOf table s A → IsProductive G A
    tree_productive (marked n m) A e = absurd (empty n m)
    tree_productive (by_clause needs gives among f) A e =
        let m = in_map (tree_of_rule table) table.rules.items (needs, gives) among in
        let r = production_of m.0 m.1 in
        let number : IsNumberOf table gives r.0.left = ap at (sym (ap (λ q. q.1) m.2)) ∙ r.2.left in
        subst (IsProductive G) (one_name gives r.0.left A number e)
        (by_production r.0 r.1 (λ B c.
        let b = spelled_back at (side m.0) r.0.right r.2.right (theory.nonterminal B) c in
        tree_productive (f b.0 (subst (λ l. Contains l b.0) (ap (λ q. q.0) m.2) (name_among m.0 b.0 B b.1 b.2))) B b.2))

    pub productive_tree : {A : Text} → IsProductive G A → (s : ℕ) → IsNumberOf table s A → HasTree s
    productive_tree (by_production p g f) s e =
        let r = rule_there p g in
        subst HasTree (one_number r.0.left s p.left r.1.left e)
        (by_clause (names_of_rule table r.0) r.0.left (map_has (tree_of_rule table) table.rules.items r.0 r.1.listed)
        (λ n c. let b = among_name r.0 p n r.1 c in productive_tree (f b.0 b.1) n b.2))

  module _ (marks : List Bool) (start : ℕ) (S : Text) (start_is : IsNumberOf table start S) (first : IsMarked marks start)
      (only : (n : ℕ) → IsMarked marks n → n ≡ start) where
    abbrev IsLedTo : ℕ → Type 0
    IsLedTo = Follows (flat_map (reach_of_rule table) table.rules.items) marks

    -- what follows by the clauses that lead on is reached
    pub led_reached : {s : ℕ} → IsLedTo s → (A : Text) → IsNumberOf table s A → IsNameReached G S A
    led_reached (marked n m) A e =
        seeded A (one_name start A S (ap at (sym (only n m)) ∙ e) start_is)
    led_reached (by_clause needs gives among f) A e =
        let m = in_flat (reach_of_rule table) table.rules.items (needs, gives) among in
        let k = in_map (λ s. (m.0.left ∷ [], s)) (names_of_rule table m.0) (needs, gives) m.2 in
        let r = production_of m.0 m.1 in
        let b = among_name m.0 r.0 k.0 r.2 k.1 in
        let same : b.0 ≡ A = one_name gives b.0 A (ap at (sym (ap (λ q. q.1) k.2)) ∙ b.2) e in
        let from : Contains needs m.0.left = subst (λ l. Contains l m.0.left) (ap (λ q. q.0) k.2) (contains_here m.0.left []) in
        stepped A (led_reached (f m.0.left from) r.0.left r.2.left) (record {
          production = r.0;
          of_grammar = r.1;
          left = refl;
          mentioned = subst (λ B. Contains r.0.right (theory.nonterminal B)) same b.1;
        })

    pub reached_led : {A : Text} → IsNameReached G S A → (s : ℕ) × IsNumberOf table s A × IsLedTo s
    reached_led (seeded A e) = (start, start_is ∙ ap (λ B. Some (theory.nonterminal B)) (sym e), marked start first)
    reached_led (stepped {A = A} C h k) =
        let own = reached_led h in
        let r = rule_there k.production k.of_grammar in
        let b = spelled_back at (side r.0) k.production.right r.1.right (theory.nonterminal C) k.mentioned in
        let here : own.0 ≡ r.0.left = one_number own.0 r.0.left A own.1
        (r.1.left ∙ ap (λ B. Some (theory.nonterminal B)) k.left) in (
          b.0,
          b.2,
          by_clause (r.0.left ∷ []) b.0
              (flat_has (reach_of_rule table) table.rules.items r.0 (r.0.left ∷ [], b.0) r.1.listed
              (map_has (λ s. (r.0.left ∷ [], s)) (names_of_rule table r.0) b.0 (name_among r.0 b.0 C b.1 b.2)))
              (λ j c. subst IsLedTo (here ∙ only_one r.0.left j c) own.2),
        )
      where
        only_one : (x j : ℕ) → Contains (x ∷ []) j → x ≡ j
        only_one x j c = ⊎_elim (λ e. e) (λ d. absurd (no_element j d)) (contains_split x j [] c)
