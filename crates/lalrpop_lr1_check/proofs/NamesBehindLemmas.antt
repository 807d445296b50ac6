-- Marks of names behind dots are the names behind dots of items that have moved: for the names that items bring.
use Rattle.std.proofs.Common.{◌≡◌, ◌∙◌, ◌↔◌, ℕ, ◌<◌, ◌-◌, Bool, true, false, List}
use Rattle.std.proofs.Common.{◌∷◌, map, drop}
use Rattle.std.proofs.Common.{refl, sym, ap, arith, Contains, Option, None, Some, slice_get}
use Rattle.std.specs.Prelude.{if◌then◌else◌}
use Rattle.std.proofs.lemmas.Bool.{lt-ltb, ltb-true}
use Rattle.lalrpop_grammar_symbols.specs.Symbols.{Text}
use Rattle.lalrpop_grammar_symbols.specs.declared.names.NonterminalString.{NonterminalString}
use Rattle.lalrpop_grammar_repr.specs.declared.production.Symbol.{Symbol}
use Rattle.lalrpop_grammar_repr.specs.declared.production.Symbol.TheVariants as symbols
use Rattle.lalrpop_lr1_theory.specs.Productions as theory
use Rattle.lalrpop_lr1_theory.proofs.StepLemmas.{some_same}
use Rattle.lalrpop_lr1_theory.specs.NameClosures.{IsMovedItem, IsNameBehindDot}
use Rattle.lalrpop_lr1_core.specs.Dots.{at_dot, has_moved}
use Rattle.lalrpop_lr1_core.specs.Views.{production_symbol_view, production_view}
use Rattle.lalrpop_lr1_core.specs.declared.item.Item.{Item}
use Rattle.lalrpop_lr1_first.specs.NumberedGrammars.{IsNumberTable, table_names}
use Rattle.lalrpop_lr1_first.specs.declared.numbered.Numbered.{Numbered}
use Rattle.lalrpop_lr1_first.proofs.TableLemmas.{name_at}
use Rattle.lalrpop_lr1_barren.specs.Clauses.{IsMarked}
use Rattle.lalrpop_lr1_barren.specs.NameMarks.{IsNumberOf}
use Rattle.lalrpop_lr1_check_lookaheads.proofs.MoveLemmas.{drop_get, get_drop}
use Rattle.lalrpop_lr1_check.specs.BeginClauses.{AreMarksOf}
use Rattle.lalrpop_lr1_check.specs.MarkGains.{IsMarkOfSome}
use Rattle.lalrpop_lr1_check.specs.MarkLists.{GainsListed}
use Rattle.lalrpop_lr1_check.specs.declared.closure.listed_marks.ListedMarks.{ListedMarks}
use Rattle.lalrpop_lr1_check.proofs.ListedMarkLemmas.{listed_nothing, listed_same}
use Rattle.lalrpop_lr1_check.specs.NamesBehind.{HasSeenItem, IsNumberBehind, moved_name, name_of_symbol}

abbrev name_of : List ℕ → NonterminalString
name_of t = record { 0 = t }

-- the symbol of which a name is told
symbol_named : (o : Option Symbol) (n : NonterminalString) → name_of_symbol o ≡ Some n → o ≡ Some (symbols.Nonterminal n)
symbol_named None n e = let w : ⊥ = cc in absurd w
symbol_named (Some (symbols.Nonterminal m)) n e = ap (λ x. Some (symbols.Nonterminal x)) (some_same m n e)
symbol_named (Some (symbols.Terminal t)) n e = let w : ⊥ = cc in absurd w

-- the name of a symbol that is seen as a nonterminal
named_symbol : (x : Symbol) (A : Text) → production_symbol_view x ≡ theory.nonterminal A →
    (n : NonterminalString) × (x ≡ symbols.Nonterminal n) × (n.0 ≡ A)
named_symbol (symbols.Nonterminal n) A e = let z : n.0 ≡ A = cc in (n, refl, z)
named_symbol (symbols.Terminal t) A e = let w : ⊥ = cc in absurd w

module _ {L : Type 0} (item : Item L) where
  -- what an item tells of which a name is behind the dot
  moved_parts : (n : NonterminalString) → moved_name item ≡ Some n →
      (0 < item.index) × (slice_get item.production.now.symbols item.index ≡ Some (symbols.Nonterminal n))
  moved_parts n e = go (has_moved item) refl e
    where
      go : (b : Bool) → has_moved item ≡ b → (if b then name_of_symbol (at_dot item) else None) ≡ Some n →
          (0 < item.index) × (slice_get item.production.now.symbols item.index ≡ Some (symbols.Nonterminal n))
      go true h f = (ltb-true 0 item.index h, symbol_named (at_dot item) n f)
      go false h f = let w : ⊥ = cc in absurd w

  parts_moved : (n : NonterminalString) → 0 < item.index →
      slice_get item.production.now.symbols item.index ≡ Some (symbols.Nonterminal n) → moved_name item ≡ Some n
  parts_moved n l e =
      ap (λ b. if b then name_of_symbol (at_dot item) else None) (let h : has_moved item ≡ true = lt-ltb 0 item.index l in h)
      ∙ ap name_of_symbol e

module _ (table : Numbered) (is : IsNumberTable table) where
  -- what stands at a name's number
  at_number : (s : ℕ) (A : Text) → IsNumberOf table s A →
      (n : NonterminalString) × (slice_get (table_names table) s ≡ Some n) × (n.0 ≡ A)
  at_number s A e = name_at table.terminals.now is.terminals (table_names table) is.names s A e

  named_at : (s : ℕ) (A : Text) → IsNumberOf table s A → (n : NonterminalString) → n.0 ≡ A →
      slice_get (table_names table) s ≡ Some n
  named_at s A e n same = let m = at_number s A e in m.1 ∙ ap (λ t. Some (name_of t)) (m.2 ∙ sym same)

  -- the mark of a name is the name's
  pub start_marks : (marks : List Bool) (start : NonterminalString) →
      ((s : ℕ) → IsMarked marks s ↔ (slice_get (table_names table) s ≡ Some start)) → AreMarksOf table marks (λ A. A ≡ start.0)
  start_marks marks start h s A e = (
    λ m. let n = at_number s A e in
        sym n.2 ∙ ap (λ (x : NonterminalString). x.0) (some_same n.0 start (sym n.1 ∙ (h s).0 m)),
    λ same. (h s).1 (named_at s A e start (sym same)),
  )

  -- marks of names behind dots
  pub behind_marks : {L : Type 0} (marks : List Bool) (items : List (Item L)) →
      ((s : ℕ) → IsMarked marks s ↔ IsMarkOfSome (IsNumberBehind table) items s) →
      AreMarksOf table marks (IsNameBehindDot (IsMovedItem (HasSeenItem items)))
  behind_marks {L} marks items h s A e = (
    λ m. let p = (h s).0 m in forth p.0 p.1 p.2.0 p.2.1 p.2.2,
    λ b. (h s).1 (back b b.item.2),
  )
    where
      forth : (item : Item L) → Contains items item → (n : NonterminalString) → moved_name item ≡ Some n →
          slice_get (table_names table) s ≡ Some n → IsNameBehindDot (IsMovedItem (HasSeenItem items)) A
      forth item c n moved at_s =
          let parts = moved_parts item n moved in
          let own = at_number s A e in
          let same : n.0 ≡ A = ap (λ (x : NonterminalString). x.0) (some_same n own.0 (sym at_s ∙ own.1)) ∙ own.2 in
          let rest = get_drop production_symbol_view item.production.now.symbols item.index (symbols.Nonterminal n) parts.1 in
          record {
            production = production_view item.production.now;
            dot = item.index;
            rest = rest.0;
            item = (
              item.index - 1,
              omega (arith, parts.0),
              record { item = item; listed = c; production = refl; dot = refl },
            );
            before = rest.1 ∙ ap (λ t. theory.nonterminal t ∷ rest.0) same;
          }

      back : (b : IsNameBehindDot (IsMovedItem (HasSeenItem items)) A) → HasSeenItem items b.production b.dot →
          IsMarkOfSome (IsNumberBehind table) items s
      back b seen =
          let item = seen.item in
          let moved : 0 < item.index = omega (arith, seen.dot, b.item.1) in
          let before : drop item.index (map production_symbol_view item.production.now.symbols) ≡ theory.nonterminal A ∷ b.rest =
          ap (λ j. drop j (production_view item.production.now).right) seen.dot
          ∙ ap (λ (v : theory.Production). drop b.dot v.right) seen.production ∙ b.before in
          let x = drop_get production_symbol_view item.production.now.symbols item.index (theory.nonterminal A) b.rest before in
          let n = named_symbol x.0 A x.2 in (
            item,
            seen.listed,
            (n.0, parts_moved item n.0 moved (x.1 ∙ ap Some n.1), named_at s A e n.0 n.2),
          )

-- marks of an item without a name behind its dot, and of one with it
pub listed_no_name : {L : Type 0} (table : Numbered) (item : Item L) (marks : ListedMarks) → moved_name item ≡ None →
    GainsListed marks marks (IsNumberBehind table item)
listed_no_name table item marks e =
    listed_nothing marks (IsNumberBehind table item) (λ n p. let both = sym p.1 ∙ e in let w : ⊥ = cc in w)

-- where a name stands behind a moved item's dot, gaining its number is gaining the number behind the dot
pub listed_behind : {L : Type 0} (table : Numbered) (item : Item L) (name : NonterminalString) (old new : ListedMarks) →
    moved_name item ≡ Some name → GainsListed old new (λ s. slice_get (table_names table) s ≡ Some name) →
    GainsListed old new (IsNumberBehind table item)
listed_behind table item name old new e g =
    listed_same old new (λ s. slice_get (table_names table) s ≡ Some name) (IsNumberBehind table item) (λ s. (
      λ at. (name, e, at),
      λ p. p.2 ∙ ap Some (some_same p.0 name (sym p.1 ∙ e)),
    )) g
