-- A table of numbers in the theory: symbols, tokens and items by their numbers. For first sets and closures.
use Rattle.std.proofs.Common.{◌≡◌, ◌∙◌, ℕ, zero, suc, ◌+◌, ◌-◌, ◌<◌, ◌≤◌, List, []}
use Rattle.std.proofs.Common.{◌∷◌, ◌++◌, length, map, drop, refl, ap, sym, subst, arith}
use Rattle.std.proofs.Common.{Some, None, Option, Contains, slice_get}
use Rattle.std.specs.List.Sorted.{IsStrictlySortedBy}
use Rattle.std.specs.Ordering.{ordering_reverse}
use Rattle.std.specs.Prelude.{option_map}
use Rattle.std.specs.declared.cmp.Ordering.{Ordering}
use Rattle.std.specs.declared.cmp.Ordering.TheVariants.{Equal, Greater, Less}
use Rattle.std.proofs.lemmas.Option.{slice_get_within}
use Rattle.lalrpop_grammar_symbols.specs.Symbols.{Text, Terminal}
use Rattle.lalrpop_grammar_symbols.specs.Views.{terminal_view}
use Rattle.lalrpop_grammar_symbols.specs.contracts.names.NonterminalStringOrd.TheImpl as names_order
use Rattle.lalrpop_grammar_symbols.specs.declared.names.NonterminalString.{NonterminalString}
use Rattle.lalrpop_grammar_symbols.specs.declared.terminal.TerminalString.{TerminalString}
use Rattle.lalrpop_grammar_repr.specs.Maps.{at_terminal}
use Rattle.lalrpop_grammar_repr.specs.declared.production.Production.{Production}
use Rattle.lalrpop_grammar_repr.specs.declared.terminal_set.TerminalSet.{TerminalSet}
use Rattle.lalrpop_lr1_theory.specs.Productions as theory
use Rattle.lalrpop_lr1_theory.proofs.ListLemmas.{contains_get, get_contains}
use Rattle.lalrpop_sets.specs.Tokens.{eof_number}
use Rattle.lalrpop_lr1_core.specs.Views.{next_of_number, production_symbol_view, production_view}
use Rattle.lalrpop_lr1_core.proofs.MemberLemmas.{in_map, map_has}
use Rattle.lalrpop_lr1_core.proofs.NoConflictLemmas.{at_mapped, same_terminal, nothing_there}
use Rattle.lalrpop_lr1_first.specs.FirstNumbers.{AreSymbolsBelow, name_count, rule_of, symbol_count, table_end, table_rules}
use Rattle.lalrpop_lr1_first.specs.ItemTables.{IsItemTable, StartsItem}
use Rattle.lalrpop_lr1_first.specs.NumberedGrammars.{HasItemAt, IsSeenIn, IsNumberTable, table_names, table_productions}
use Rattle.lalrpop_lr1_first.specs.Numbers.{AreRulesOf, IsNumbering, IsRuleOf, RuleByNumbers, SpellsSymbols}
use Rattle.lalrpop_lr1_first.specs.Tables.{IsLaidAt, IsTerminalSet, end_until, laid_side, rest_of, symbol_of_number, symbol_or}
use Rattle.lalrpop_lr1_first.specs.Tables.{symbols_until}
use Rattle.lalrpop_lr1_first.specs.declared.numbered.Numbered.{Numbered}
use Rattle.lalrpop_lr1_first.specs.declared.place.NumberedRule.{NumberedRule}
use Rattle.lalrpop_lr1_first.specs.declared.place.Place.{Place}
use Rattle.lalrpop_lr1_first.specs.declared.place.Place.TheVariants as places
use Rattle.lalrpop_lr1_first.proofs.LayingLemmas.{drop_within, side_first}
use Rattle.lalrpop_lr1_core.proofs.MemberLemmas.{some_is}
use Rattle.lalrpop_lr1_first.proofs.NameLemmas.{name_antisymm}
use Rattle.lalrpop_lr1_core.proofs.SortedLemmas.{all_at}

-- what stands at two places of a list in order is one only where the places are one
module _ {X : Type 0} (R : X → X → Ordering) (antisymm : (x y : X) → R x y ≡ ordering_reverse (R y x)) where
  not_less : (o : Ordering) → o ≡ ordering_reverse o → o ≡ Less → ⊥
  not_less Less e h = cc
  not_less Equal e h = cc
  not_less Greater e h = cc

  pub once : (xs : List X) → IsStrictlySortedBy R xs → (i j : ℕ) (x : X) → slice_get xs i ≡ Some x →
      slice_get xs j ≡ Some x → i ≡ j
  unfolding IsStrictlySortedBy
  once [] s i j x e f = let w : ⊥ = cc in absurd w
  once (y ∷ xs) s zero zero x e f = refl
  once (y ∷ xs) s zero (suc j) x e f =
      let one : y ≡ x = some_is y x e in
      absurd (not_less (R x x) (antisymm x x) (subst (λ z. R z x ≡ Less) one (all_at (λ z. R y z ≡ Less) xs j x s.0 f)))
  once (y ∷ xs) s (suc i) zero x e f =
      let one : y ≡ x = some_is y x f in
      absurd (not_less (R x x) (antisymm x x) (subst (λ z. R z x ≡ Less) one (all_at (λ z. R y z ≡ Less) xs i x s.0 e)))
  once (y ∷ xs) s (suc i) (suc j) x e f = ap suc (once xs s.1 i j x e f)

module _ (ts : TerminalSet) (set : IsTerminalSet ts) where
  -- numbers up to the end's that are seen as one are one
  pub same_next : (j k : ℕ) → j ≤ eof_number ts → k ≤ eof_number ts → next_of_number ts j ≡ next_of_number ts k → j ≡ k
  same_next j k hj hk e = go (slice_get ts.all j) (slice_get ts.all k) refl refl e
    where
      go : (a b : Option TerminalString) → slice_get ts.all j ≡ a → slice_get ts.all k ≡ b
          → option_map terminal_view a ≡ option_map terminal_view b → j ≡ k
      go None None at_j at_k same = omega (arith, nothing_there ts.all j at_j, nothing_there ts.all k at_k)
      go None (Some u) at_j at_k same = let w : ⊥ = cc in absurd w
      go (Some t) None at_j at_k same = let w : ⊥ = cc in absurd w
      go (Some t) (Some u) at_j at_k same =
          let one : t ≡ u = same_terminal t u (some_is (terminal_view t) (terminal_view u) same) in
          some_is j k (sym (set.numbered j t at_j) ∙ ap (λ v. at_terminal v ts.bits) one ∙ set.numbered k u at_k)

  none_past : {X : Type 0} (xs : List X) → slice_get xs (length xs) ≡ None
  none_past [] = refl
  none_past (x ∷ xs) = none_past xs

  pub end_is_none : next_of_number ts (eof_number ts) ≡ None
  end_is_none = ap (option_map terminal_view) (none_past ts.all)

  module _ (names : List NonterminalString) (sorted : IsStrictlySortedBy (names_order.ghosts).cmp names) where
    pub name_at : (s : ℕ) (A : Text) → symbol_of_number names ts s ≡ Some (theory.nonterminal A) → (n : NonterminalString) ×
        (slice_get names s ≡ Some n) × (n.0 ≡ A)
    name_at s A e = go (slice_get names s) refl (slice_get ts.all (s - length names)) e
      where
        go : (a : Option NonterminalString) → slice_get names s ≡ a → (b : Option TerminalString) →
            symbol_or a b ≡ Some (theory.nonterminal A) → (n : NonterminalString) × (slice_get names s ≡ Some n) × (n.0 ≡ A)
        go (Some n) at b f = (n, at, cc)
        go None at (Some t) f = let w : ⊥ = cc in absurd w
        go None at None f = let w : ⊥ = cc in absurd w

    terminal_at : (s : ℕ) (t : Terminal) → symbol_of_number names ts s ≡ Some (theory.terminal t) →
        (j : ℕ) × (s ≡ length names + j) × (j < eof_number ts) × (next_of_number ts j ≡ Some t)
    terminal_at s t e = go (slice_get names s) refl (slice_get ts.all (s - length names)) refl e
      where
        go : (a : Option NonterminalString) → slice_get names s ≡ a → (b : Option TerminalString) →
            slice_get ts.all (s - length names) ≡ b → symbol_or a b ≡ Some (theory.terminal t) →
            (j : ℕ) × (s ≡ length names + j) × (j < eof_number ts) × (next_of_number ts j ≡ Some t)
        go (Some n) at b at_b f = let w : ⊥ = cc in absurd w
        go None at (Some u) at_b f =
            let seen : terminal_view u ≡ t = cc in (
              s - length names,
              omega (arith, nothing_there names s at),
              slice_get_within ts.all (s - length names) u at_b,
              ap (option_map terminal_view) at_b ∙ ap Some seen,
            )
        go None at None at_b f = let w : ⊥ = cc in absurd w

    -- symbols and tokens are numbered
    pub is_numbering : IsNumbering (symbol_of_number names ts) (next_of_number ts) (eof_number ts) (length names)
    is_numbering = record {
      name_below = λ s A e. let n = name_at s A e in slice_get_within names s n.0 n.1;
      name_once = λ s t A e f.
          let n = name_at s A e in
          let m = name_at t A f in
          let one : m.0 ≡ n.0 = ap (λ x. record { 0 = x }) (m.2 ∙ sym n.2) in
          once (names_order.ghosts).cmp name_antisymm names sorted s t n.0 n.1 (m.1 ∙ ap Some one);
      terminal_at = terminal_at;
      next_once = same_next;
      end_at = end_is_none;
    }

-- a mapped list has at a place the image of what the list has there
pub get_mapped : {X Y : Type 0} (f : X → Y) (xs : List X) (r : ℕ) (x : X) → slice_get xs r ≡ Some x →
    slice_get (map f xs) r ≡ Some (f x)
get_mapped f [] r x e = let w : ⊥ = cc in absurd w
get_mapped f (y ∷ xs) zero x e = ap (λ o. option_map f o) e
get_mapped f (y ∷ xs) (suc r) x e = get_mapped f xs r x e

-- ---- places
pub symbols_side : (xs : List ℕ) (r : ℕ) (more : List Place) → symbols_until (laid_side xs r ++ more) ≡ xs
symbols_side [] r more = refl
symbols_side (x ∷ xs) r more = ap (λ l. x ∷ l) (symbols_side xs r more)

end_side : (xs : List ℕ) (r : ℕ) (more : List Place) → end_until (laid_side xs r ++ more) ≡ Some r
end_side [] r more = refl
end_side (x ∷ xs) r more = end_side xs r more

drop_side : (d : ℕ) (xs : List ℕ) (r : ℕ) (more : List Place) → d ≤ length xs →
    drop d (laid_side xs r ++ more) ≡ laid_side (drop d xs) r ++ more
drop_side zero xs r more h = refl
drop_side (suc d) [] r more h = absurd (omega arith)
drop_side (suc d) (x ∷ xs) r more h = drop_side d xs r more (omega arith)

pub drop_both : {X : Type 0} (n d : ℕ) (xs : List X) → drop (n + d) xs ≡ drop d (drop n xs)
drop_both zero d xs = ap (λ k. drop k xs) (let e : zero + d ≡ d = omega arith in e)
drop_both (suc n) zero [] = ap (λ k. drop k []) (let e : suc n + zero ≡ suc n = omega arith in e)
drop_both (suc n) (suc d) [] = ap (λ k. drop k []) (let e : suc n + suc d ≡ suc (n + suc d) = omega arith in e)
drop_both (suc n) d (x ∷ xs) = ap (λ k. drop k (x ∷ xs)) (let e : suc n + d ≡ suc (n + d) = omega arith in e) ∙ drop_both n d xs

pub spells_long : (at : ℕ → Option theory.Symbol) (xs : List ℕ) (ys : List theory.Symbol) → SpellsSymbols at xs ys →
    length xs ≡ length ys
spells_long at [] [] sp = refl
spells_long at [] (y ∷ ys) sp = absurd sp
spells_long at (x ∷ xs) [] sp = absurd sp
spells_long at (x ∷ xs) (y ∷ ys) sp = ap suc (spells_long at xs ys sp.1)

spells_drop : (at : ℕ → Option theory.Symbol) (d : ℕ) (xs : List ℕ) (ys : List theory.Symbol) → SpellsSymbols at xs ys →
    SpellsSymbols at (drop d xs) (drop d ys)
spells_drop at zero xs ys sp = sp
spells_drop at (suc d) [] [] sp = tt
spells_drop at (suc d) [] (y ∷ ys) sp = absurd sp
spells_drop at (suc d) (x ∷ xs) [] sp = absurd sp
spells_drop at (suc d) (x ∷ xs) (y ∷ ys) sp = spells_drop at d xs ys sp.1

-- a mapped list is as long as the list
pub long_map : {X Y : Type 0} (f : X → Y) (xs : List X) → length (map f xs) ≡ length xs
long_map f [] = refl
long_map f (x ∷ xs) = ap suc (long_map f xs)

until_next : (all : List Place) (i s : ℕ) (more : List ℕ) → symbols_until (drop i all) ≡ s ∷ more →
    symbols_until (drop (i + 1) all) ≡ more
until_next [] zero s more e = let w : ⊥ = cc in absurd w
until_next [] (suc i) s more e = let w : ⊥ = cc in absurd w
until_next (places.End r ∷ all) zero s more e = let w : ⊥ = cc in absurd w
until_next (places.Symbol x ∷ all) zero s more e = cc
until_next (p ∷ all) (suc i) s more e =
    ap (λ k. symbols_until (drop k (p ∷ all))) (let z : suc i + 1 ≡ suc (i + 1) = omega arith in z) ∙ until_next all i s more e

pub get_some : {X : Type 0} (xs : List X) (r : ℕ) → r < length xs → (x : X) × (slice_get xs r ≡ Some x)
get_some [] r h = absurd (omega arith)
get_some (x ∷ xs) zero h = (x, refl)
get_some (x ∷ xs) (suc r) h = get_some xs r (omega arith)

module _ (table : Numbered) (is : IsNumberTable table) where
  abbrev at : ℕ → Option theory.Symbol
  at = symbol_of_number (table_names table) table.terminals.now

  abbrev rest : ℕ → List ℕ
  rest = rest_of table.places.items

  abbrev G : theory.Production → Type 0
  G = IsSeenIn (table_productions table)

  -- symbols and tokens are numbered by the table
  pub table_numbering : IsNumbering at (next_of_number table.terminals.now) (table_end table) (name_count table)
  table_numbering =
      subst (λ n. IsNumbering at (next_of_number table.terminals.now) (table_end table) n) (long_map (λ b. b.now) table.names.items)
      (is_numbering table.terminals.now is.terminals (table_names table) is.names)

  -- an item's place in its production
  laid_of : (i : ℕ) (p : theory.Production) (d : ℕ) (h : HasItemAt table i p d) →
      IsLaidAt (table_names table) table.terminals.now table.rules.items table.places.items h.number h.production
  laid_of i p d h = is.laid.at h.number h.production h.at_production

  drop_of : (i : ℕ) (p : theory.Production) (d : ℕ) (h : HasItemAt table i p d) →
      drop i table.places.items ≡ laid_side (drop d (laid_of i p d h).numbers) h.number ++ (laid_of i p d h).more
  drop_of i p d h =
      let l = laid_of i p d h in
      let rule : h.rule ≡ l.rule = some_is h.rule l.rule (sym h.at_rule ∙ l.at) in
      let long : length l.numbers ≡ length h.production.symbols =
      spells_long at l.numbers (map production_symbol_view h.production.symbols) l.spelled
      ∙ long_map production_symbol_view h.production.symbols in
      ap (λ k. drop k table.places.items) h.place_is ∙ drop_both h.rule.start d table.places.items
      ∙ ap (λ (x : NumberedRule). drop d (drop x.start table.places.items)) rule ∙ ap (drop d) l.laid
      ∙ drop_side d l.numbers h.number l.more (omega (arith, long, h.within))

  spelled_at : (i : ℕ) (p : theory.Production) (d : ℕ) → HasItemAt table i p d → SpellsSymbols at (rest i) (drop d p.right)
  spelled_at i p d h =
      let l = laid_of i p d h in
      subst (λ xs. SpellsSymbols at xs (drop d p.right)) (sym (ap symbols_until (drop_of i p d h)
      ∙ symbols_side (drop d l.numbers) h.number l.more))
      (subst (λ (q : theory.Production). SpellsSymbols at (drop d l.numbers) (drop d q.right)) (sym h.seen)
      (spells_drop at d l.numbers (map production_symbol_view h.production.symbols) l.spelled))

  one_item : (i : ℕ) (p q : theory.Production) (d e : ℕ) → HasItemAt table i p d → HasItemAt table i q e →
      (p ≡ q) × (d ≡ e)
  one_item i p q d e h g =
      let lh = laid_of i p d h in
      let lg = laid_of i q e g in
      let both : Some h.number ≡ Some g.number =
      sym (ap end_until (drop_of i p d h) ∙ end_side (drop d lh.numbers) h.number lh.more)
      ∙ ap end_until (drop_of i q e g) ∙ end_side (drop e lg.numbers) g.number lg.more in
      let number : h.number ≡ g.number = some_is h.number g.number both in
      let production : h.production ≡ g.production =
      some_is h.production g.production (sym h.at_production ∙ ap (slice_get (table_productions table)) number ∙ g.at_production) in
      let rule : h.rule ≡ g.rule = some_is h.rule g.rule (sym h.at_rule ∙ ap (slice_get table.rules.items) number ∙ g.at_rule) in
      let start : h.rule.start ≡ g.rule.start = ap (λ (r : NumberedRule). r.start) rule in
      (h.seen ∙ ap production_view production ∙ sym g.seen, omega (arith, start, h.place_is, g.place_is))

  start_item : (r : ℕ) (rule : NumberedRule) (p : Production) → slice_get table.rules.items r ≡ Some rule →
      slice_get (table_productions table) r ≡ Some p → StartsItem at (HasItemAt table) table.rules.items rule (production_view p)
  start_item r rule p e f =
      let l = is.laid.at r p f in
      let one : l.rule ≡ rule = some_is l.rule rule (sym l.at ∙ e) in
      record {
        listed = get_contains table.rules.items r rule e;
        left = subst (λ (x : NumberedRule). at x.left ≡ Some (theory.nonterminal p.nonterminal.0)) one l.left;
        item = record {
          number = r;
          rule = rule;
          production = p;
          at_rule = e;
          at_production = f;
          seen = refl;
          place_is = omega arith;
          within = omega arith;
        };
      }

  -- items have places
  pub is_item_table : IsItemTable G at (HasItemAt table) rest table.rules.items
  is_item_table = record {
    of_grammar = λ i p d h. subst (Contains (map production_view (table_productions table))) (sym h.seen)
        (map_has production_view (table_productions table) h.production (get_contains (table_productions table) h.number h.production
        h.at_production));
    spelled = spelled_at;
    one = one_item;
    next = λ i s more e. until_next table.places.items i s more e;
    rule = λ rule c.
        let k = contains_get table.rules.items rule c in
        let p = get_some (table_productions table) k.0 (omega (arith, slice_get_within table.rules.items k.0 rule k.1, is.laid.count)) in
        (production_view p.0, start_item k.0 rule p.0 k.1 p.1);
    all = λ p g.
        let m = in_map production_view (table_productions table) p g in
        let k = contains_get (table_productions table) m.0 m.1 in
        let l = is.laid.at k.0 m.0 k.1 in (
          l.rule,
          subst (λ (q : theory.Production). StartsItem at (HasItemAt table) table.rules.items l.rule q) m.2
              (start_item k.0 l.rule m.0 l.at k.1),
        );
  }

  -- each number that is laid is a symbol's
  pub symbols_below : AreSymbolsBelow (symbol_count table) table.places.items
  symbols_below i s e = let x = is.laid.symbols i s e in go x.0 x.1
    where
      long : length (table_names table) ≡ name_count table
      long = long_map (λ b. b.now) table.names.items

      go : (x : theory.Symbol) → at s ≡ Some x → s < symbol_count table
      go (theory.nonterminal A) e =
          omega (arith, long, (is_numbering table.terminals.now is.terminals (table_names table) is.names).name_below s A e)
      go (theory.terminal t) e =
          let h = (is_numbering table.terminals.now is.terminals (table_names table) is.names).terminal_at s t e in
          omega (arith, long, h.1, h.2)

  -- a rule starts within the places, and its left side is a name's number
  pub start_within : (r : ℕ) (rule : NumberedRule) → slice_get table.rules.items r ≡ Some rule →
      rule.start ≤ length table.places.items
  start_within r rule e =
      let p = get_some (table_productions table) r (omega (arith, slice_get_within table.rules.items r rule e, is.laid.count)) in
      let l = is.laid.at r p.0 p.1 in
      let one : l.rule ≡ rule = some_is l.rule rule (sym l.at ∙ e) in
      let f = side_first (table_names table) table.terminals.now l.numbers r l.more in
      subst (λ (x : NumberedRule). x.start ≤ length table.places.items) one
      (drop_within (table_names table) table.terminals.now l.rule.start table.places.items f.0 f.1 (l.laid ∙ f.2))

  pub left_below : (r : ℕ) (rule : NumberedRule) → slice_get table.rules.items r ≡ Some rule → rule.left < name_count table
  left_below r rule e =
      let s = is_item_table.rule rule (get_contains table.rules.items r rule e) in
      omega (
        arith,
        long_map (λ b. b.now) table.names.items,
        (is_numbering table.terminals.now is.terminals (table_names table) is.names).name_below rule.left s.0.left s.1.left,
      )

  -- the rules are the productions
  pub rules_are : AreRulesOf at (table_rules table) G
  rules_are = record {
    sound = λ r rule e.
        let m = at_mapped (rule_of table.places.items) table.rules.items r rule e in
        let s = is_item_table.rule m.0 (get_contains table.rules.items r m.0 m.1) in (
          s.0,
          is_item_table.of_grammar m.0.start s.0 0 s.1.item,
          subst (λ (x : RuleByNumbers). IsRuleOf at x s.0) m.2 (record {
            left = s.1.left;
            right = is_item_table.spelled m.0.start s.0 0 s.1.item;
          }),
        );
    all = λ p g.
        let s = is_item_table.all p g in
        let k = contains_get table.rules.items s.0 s.1.listed in (
          k.0,
          rule_of table.places.items s.0,
          get_mapped (rule_of table.places.items) table.rules.items k.0 s.0 k.1,
          record { left = s.1.left; right = is_item_table.spelled s.0.start p 0 s.1.item },
        );
  }
