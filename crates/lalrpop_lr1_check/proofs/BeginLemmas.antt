-- Names that follow by the clauses of beginnings are those that a closure brings: for marks of names.
use Rattle.std.proofs.Common.{◌≡◌, ◌∙◌, ◌↔◌, ℕ, ◌<◌, Bool, List, [], ◌∷◌}
use Rattle.std.proofs.Common.{refl, sym, ap, subst, get_or, length, slice_get}
use Rattle.std.proofs.Common.{⊎_elim, arith, Contains, Option, None, Some}
use Rattle.std.specs.Prelude.{flat_map}
use Rattle.std.proofs.lemmas.Option.{slice_get-get_or}
use Rattle.lalrpop_grammar_symbols.specs.Symbols.{Text}
use Rattle.lalrpop_lr1_theory.specs.Productions as theory
use Rattle.lalrpop_lr1_theory.proofs.ListLemmas.{contains_here, contains_split, get_contains}
use Rattle.lalrpop_lr1_theory.proofs.StepLemmas.{some_same}
use Rattle.lalrpop_lr1_theory.specs.NameClosures.{BeginsWithName, IsNameFrom, seeded, stepped}
use Rattle.lalrpop_lr1_first.specs.ClosureTables.{name_behind}
use Rattle.lalrpop_lr1_first.specs.FirstNumbers.{name_count}
use Rattle.lalrpop_lr1_first.specs.NumberedGrammars.{IsNumberTable, IsSeenIn, table_names, table_productions}
use Rattle.lalrpop_lr1_first.specs.Numbers.{SpellsSymbols}
use Rattle.lalrpop_lr1_first.specs.Tables.{rest_of, symbol_of_number}
use Rattle.lalrpop_lr1_first.specs.declared.numbered.Numbered.{Numbered}
use Rattle.lalrpop_lr1_first.specs.declared.place.NumberedRule.{NumberedRule}
use Rattle.lalrpop_lr1_first.proofs.SeedLemmas.{name_is, name_there}
use Rattle.lalrpop_lr1_first.proofs.TableLemmas.{table_numbering}
use Rattle.lalrpop_lr1_barren.specs.Clauses.{Follows, IsMarked, by_clause, marked}
use Rattle.lalrpop_lr1_barren.specs.NameMarks.{IsNumberOf}
use Rattle.lalrpop_lr1_barren.proofs.NameLemmas.{one_number, production_of, rule_there}
use Rattle.lalrpop_lr1_core.proofs.GraphLemmas.{in_flat, flat_has}
use Rattle.lalrpop_lr1_theory.proofs.NameLemmas.{no_element}
use Rattle.lalrpop_lr1_check.specs.BeginClauses.{AreMarksOf, begin_of_rule, begin_to}

-- the clause from a number to another
in_begin : (from : ℕ) (o : Option ℕ) (c : List ℕ × ℕ) → Contains (begin_to from o) c →
    (s : ℕ) × (o ≡ Some s) × (◌≡◌ {A = List ℕ × ℕ} (from ∷ [], s) c)
in_begin from None c h = absurd (no_element c h)
in_begin from (Some s) c h = ⊎_elim (λ e. (s, refl, e)) (λ d. absurd (no_element c d)) (contains_split (from ∷ [], s) c [] h)

begin_has : (from : ℕ) (o : Option ℕ) (s : ℕ) → o ≡ Some s → Contains (begin_to from o) (from ∷ [], s)
begin_has from o s e = subst (λ p. Contains (begin_to from p) (from ∷ [], s)) (sym e) (contains_here (from ∷ [], s) [])

-- the only element of a list
pub only_one : (x j : ℕ) → Contains (x ∷ []) j → x ≡ j
only_one x j c = ⊎_elim (λ e. e) (λ d. absurd (no_element j d)) (contains_split x j [] c)

module _ (at : ℕ → Option theory.Symbol) where
  -- the first of what is spelled
  spelled_first : (ns : List ℕ) (xs : List theory.Symbol) (s : ℕ) (more : List ℕ) → SpellsSymbols at ns xs → ns ≡ s ∷ more →
      (y : theory.Symbol) × (ys : List theory.Symbol) × (xs ≡ y ∷ ys) × (at s ≡ Some y)
  spelled_first [] xs s more sp e = let w : ⊥ = cc in absurd w
  spelled_first (n ∷ ns) [] s more sp e = absurd sp
  spelled_first (n ∷ ns) (y ∷ ys) s more sp e = let z : s ≡ n = cc in (y, ys, refl, ap at z ∙ sp.0)

  spelling_first : (ns : List ℕ) (xs : List theory.Symbol) (y : theory.Symbol) (ys : List theory.Symbol) → SpellsSymbols at ns xs →
      xs ≡ y ∷ ys → (s : ℕ) × (more : List ℕ) × (ns ≡ s ∷ more) × (at s ≡ Some y)
  spelling_first ns [] y ys sp e = let w : ⊥ = cc in absurd w
  spelling_first [] (x ∷ xs) y ys sp e = absurd sp
  spelling_first (n ∷ ns) (x ∷ xs) y ys sp e = let z : x ≡ y = cc in (n, ns, refl, sp.0 ∙ ap Some z)

module _ (table : Numbered) (is : IsNumberTable table) where
  abbrev at : ℕ → Option theory.Symbol
  at = symbol_of_number (table_names table) table.terminals.now

  abbrev G : theory.Production → Type 0
  G = IsSeenIn (table_productions table)

  abbrev side : NumberedRule → List ℕ
  side rule = rest_of table.places.items rule.start

  abbrev all : List (List ℕ × ℕ)
  all = flat_map (begin_of_rule table) table.rules.items

  module _ (marks : List Bool) (Seed : Text → Type 0) (seeds : AreMarksOf table marks Seed) where
    -- what follows by the clauses is brought
    follows_from : {s : ℕ} → Follows all marks s → (A : Text) → IsNumberOf table s A → IsNameFrom Seed (BeginsWithName G) A
    follows_from (marked n m) A e = seeded A ((seeds n A e).0 m)
    follows_from (by_clause needs gives among f) A e =
        let m = in_flat (begin_of_rule table) table.rules.items (needs, gives) among in
        let b = in_begin m.0.left (name_behind table m.0.start) (needs, gives) m.2 in
        let gives_is : b.0 ≡ gives = ap (λ q. q.1) b.2 in
        let from : Contains needs m.0.left = subst (λ l. Contains l m.0.left) (ap (λ q. q.0) b.2) (contains_here m.0.left []) in
        let r = production_of table is m.0 m.1 in
        let n = name_is (name_count table) (side m.0) b.0 b.1 in
        let h = spelled_first at (side m.0) r.0.right b.0 n.0 r.2.right n.1 in
        let first : h.0 ≡ theory.nonterminal A = some_same h.0 (theory.nonterminal A) (sym h.3 ∙ ap at gives_is ∙ e) in
        stepped A (follows_from (f m.0.left from) r.0.left r.2.left) (record {
          production = r.0;
          rest = h.1;
          of_grammar = r.1;
          left = refl;
          right = h.2 ∙ ap (λ y. y ∷ h.1) first;
        })

    -- what is brought follows by the clauses
    from_follows : {A : Text} → IsNameFrom Seed (BeginsWithName G) A → (s : ℕ) → IsNumberOf table s A → Follows all marks s
    from_follows (seeded A h) s e = marked s ((seeds s A e).1 h)
    from_follows (stepped {A = A} B h k) s e =
        let r = rule_there table is k.production k.of_grammar in
        let b = spelling_first at (side r.0) k.production.right (theory.nonterminal B) k.rest r.1.right k.right in
        let here : b.0 ≡ s = one_number table is b.0 s B b.3 e in
        let below : b.0 < name_count table = (table_numbering table is).name_below b.0 B b.3 in
        let behind : name_behind table r.0.start ≡ Some b.0 = name_there (name_count table) (side r.0) b.0 b.1 b.2 below in
        let own = from_follows h r.0.left (r.1.left ∙ ap (λ N. Some (theory.nonterminal N)) k.left) in
        subst (Follows all marks) here
        (by_clause (r.0.left ∷ []) b.0
        (flat_has (begin_of_rule table) table.rules.items r.0 (r.0.left ∷ [], b.0) r.1.listed
        (begin_has r.0.left (name_behind table r.0.start) b.0 behind))
        (λ j c. subst (Follows all marks) (only_one r.0.left j c) own))

    -- marks that are closed are those of all that is brought
    pub closed_marks : (closed : List Bool) → ((n : ℕ) → IsMarked closed n ↔ Follows all marks n) →
        AreMarksOf table closed (IsNameFrom Seed (BeginsWithName G))
    closed_marks closed follows s A e =
        (λ m. follows_from ((follows s).0 m) A e, λ h. (follows s).1 (from_follows h s e))

  -- a rule's left side is a name
  pub left_within : (rules : List NumberedRule) (r : ℕ) (d : NumberedRule) → rules ≡ table.rules.items → r < length rules →
      (get_or rules r d).left < name_count table
  left_within rules r d are h =
      let own = get_contains table.rules.items r (get_or rules r d)
      (subst (λ l. slice_get l r ≡ Some (get_or rules r d)) are (slice_get-get_or rules r d h)) in
      let p = production_of table is (get_or rules r d) own in
      (table_numbering table is).name_below (get_or rules r d).left p.0.left p.2.left

  -- a clause leads from one name
  pub one_need : (c : List ℕ × ℕ) → Contains all c → (from : ℕ) × (◌≡◌ {A = List ℕ × ℕ} (from ∷ [], c.1) c)
  one_need c d =
      let m = in_flat (begin_of_rule table) table.rules.items c d in
      let b = in_begin m.0.left (name_behind table m.0.start) c m.2 in
      (m.0.left, ap (λ s. (m.0.left ∷ [], s)) (sym (ap (λ q. q.1) b.2)) ∙ b.2)

  -- to a name
  pub begin_within : (c : List ℕ × ℕ) → Contains all c → c.1 < name_count table
  begin_within c d =
      let m = in_flat (begin_of_rule table) table.rules.items c d in
      let b = in_begin m.0.left (name_behind table m.0.start) c m.2 in
      let n = name_is (name_count table) (side m.0) b.0 b.1 in
      let gives : b.0 ≡ c.1 = ap (λ q. q.1) b.2 in
      omega (arith, gives, n.2)
