-- What stands at a key of a map in order is the key's one entry: for where symbols lead.
use Rattle.std.proofs.Common.{◌≡◌, ◌∙◌, ◌⊎◌, ℕ, Bool, true, false, cond, List, [], ◌∷◌, Some, refl, sym, ap}
use Rattle.std.proofs.Common.{subst, Contains}
use Rattle.std.proofs.Common.{inl, inr}
use Rattle.std.specs.BTreeMap.{is_at}
use Rattle.std.specs.List.{AllByRecursion}
use Rattle.std.specs.List.Sorted.{IsStrictlySortedBy}
use Rattle.std.specs.Map.{keys_of, lookup}
use Rattle.std.specs.Ordering.{is_eq}
use Rattle.std.specs.declared.cmp.Ordering.{Ordering}
use Rattle.std.specs.declared.cmp.Ordering.TheVariants.{Equal, Less}
use Rattle.std.specs.Cmp.Lexicographic.{slice_cmp}
use Rattle.std.specs.Ordering.{nat_cmp}
use Rattle.std.proofs.lemmas.Cmp.{nat_list_cmp_total}
use Rattle.std.proofs.lemmas.Map.Lookups.{exact_bytes}
use Rattle.lalrpop_grammar_symbols.specs.contracts.names.NonterminalStringOrd.TheImpl as names
use Rattle.lalrpop_grammar_symbols.specs.contracts.terminal.TerminalStringOrd.TheImpl as terminals
use Rattle.lalrpop_grammar_symbols.specs.contracts.terminal.TerminalLiteralOrd.TheImpl as literals
use Rattle.lalrpop_grammar_symbols.specs.declared.names.NonterminalString.{NonterminalString}
use Rattle.lalrpop_grammar_symbols.specs.declared.terminal.TerminalLiteral.{TerminalLiteral}
use Rattle.lalrpop_grammar_symbols.specs.declared.terminal.TerminalLiteral.TheVariants as literal
use Rattle.lalrpop_grammar_symbols.specs.declared.terminal.TerminalString.{TerminalString}
use Rattle.lalrpop_grammar_symbols.specs.declared.terminal.TerminalString.TheVariants as terminal
use Rattle.lalrpop_lr1_theory.proofs.ListLemmas.{contains_here, contains_later, contains_split}
use Rattle.lalrpop_lr1_theory.proofs.NameLemmas.{no_element}
use Rattle.lalrpop_lr1_barren.proofs.SearchLemmas.{self_equal}
use Rattle.lalrpop_grammar_symbols.proofs.BoolLemmas.{is_equal}

bytes_self : (s : List ℕ) → slice_cmp nat_cmp s s ≡ Equal
bytes_self s = self_equal (slice_cmp nat_cmp s s) (nat_list_cmp_total.antisymm s s)

abbrev name_at : List ℕ → NonterminalString
name_at t = record { 0 = t }

-- names that compare as equal are one
pub name_exact : (a b : NonterminalString) → (names.ghosts).cmp a b ≡ Equal → a ≡ b
name_exact a b e = ap name_at (exact_bytes a.0 b.0 e)

-- each name compares as equal to itself
pub name_self : (a : NonterminalString) → (names.ghosts).cmp a a ≡ Equal
name_self a = bytes_self a.0

literal_exact : (a b : TerminalLiteral) → (literals.ghosts).cmp a b ≡ Equal → a ≡ b
literal_exact (literal.Quoted s) (literal.Quoted t) e = ap literal.Quoted (exact_bytes s t e)
literal_exact (literal.Quoted s) (literal.Regex t) e = let w : ⊥ = cc in absurd w
literal_exact (literal.Regex s) (literal.Quoted t) e = let w : ⊥ = cc in absurd w
literal_exact (literal.Regex s) (literal.Regex t) e = ap literal.Regex (exact_bytes s t e)

-- terminals that compare as equal are one
pub terminal_exact : (a b : TerminalString) → (terminals.ghosts).cmp a b ≡ Equal → a ≡ b
terminal_exact (terminal.Literal s) (terminal.Literal t) e = ap terminal.Literal (literal_exact s t e)
terminal_exact (terminal.Literal s) (terminal.Bare t) e = let w : ⊥ = cc in absurd w
terminal_exact (terminal.Literal s) terminal.Error e = let w : ⊥ = cc in absurd w
terminal_exact (terminal.Bare s) (terminal.Literal t) e = let w : ⊥ = cc in absurd w
terminal_exact (terminal.Bare s) (terminal.Bare t) e = ap terminal.Bare (exact_bytes s t e)
terminal_exact (terminal.Bare s) terminal.Error e = let w : ⊥ = cc in absurd w
terminal_exact terminal.Error (terminal.Literal t) e = let w : ⊥ = cc in absurd w
terminal_exact terminal.Error (terminal.Bare t) e = let w : ⊥ = cc in absurd w
terminal_exact terminal.Error terminal.Error e = refl

-- each terminal compares as equal to itself
pub terminal_self : (a : TerminalString) → (terminals.ghosts).cmp a a ≡ Equal
terminal_self (terminal.Literal (literal.Quoted s)) = bytes_self s
terminal_self (terminal.Literal (literal.Regex s)) = bytes_self s
terminal_self (terminal.Bare s) = bytes_self s
terminal_self terminal.Error = refl

module _ {K V : Type 0} (R : K → K → Ordering) (exact : (x y : K) → R x y ≡ Equal → x ≡ y) (self : (x : K) → R x x ≡ Equal)
  where
    all_in : (P : K → Type 0) (es : List (K × V)) (q : K) (v : V) → AllByRecursion P (keys_of es) → Contains es (q, v) → P q
    all_in P [] q v a c = absurd (no_element (q, v) c)
    all_in P (e ∷ es) q v a c = go (contains_split e (q, v) es c) (all_in P es q v a.1)
      where
        go : (e ≡ (q, v)) ⊎ Contains es (q, v) → (Contains es (q, v) → P q) → P q
        go (inl z) rec = subst P (ap (λ (u : K × V). u.0) z) a.0
        go (inr d) rec = rec d

    -- what a look-up finds is an entry
    pub lookup_in : (es : List (K × V)) (q : K) (v : V) → lookup (is_at (R q)) es ≡ Some v → Contains es (q, v)
    lookup_in [] q v e = let z : ⊥ = cc in absurd z
    lookup_in ((k, x) ∷ es) q v e = go (is_eq (R q k)) refl e (lookup_in es q v)
      where
        go : (b : Bool) → is_eq (R q k) ≡ b → cond b (Some x) (lookup (is_at (R q)) es) ≡ Some v →
            (lookup (is_at (R q)) es ≡ Some v → Contains es (q, v)) → Contains ((k, x) ∷ es) (q, v)
        go true h f rec =
            let one : q ≡ k = exact q k (is_equal (R q k) h) in
            let same : x ≡ v = cc in
            subst (λ (u : K × V). Contains ((k, x) ∷ es) u) (ap (λ j. (j, x)) (sym one) ∙ ap (λ y. (q, y)) same)
            (contains_here (k, x) es)
        go false h f rec = contains_later (k, x) (q, v) es (rec f)

    -- an entry is found, where the keys are in order
    pub in_lookup : (es : List (K × V)) (q : K) (v : V) → IsStrictlySortedBy R (keys_of es) → Contains es (q, v) →
        lookup (is_at (R q)) es ≡ Some v
    unfolding IsStrictlySortedBy
    in_lookup [] q v s c = absurd (no_element (q, v) c)
    in_lookup ((k, x) ∷ es) q v s c =
        go (is_eq (R q k)) refl (contains_split (k, x) (q, v) es c) (λ d. in_lookup es q v s.1 d)
      where
        go : (b : Bool) → is_eq (R q k) ≡ b → (◌≡◌ {A = K × V} (k, x) (q, v)) ⊎ Contains es (q, v) →
            (Contains es (q, v) → lookup (is_at (R q)) es ≡ Some v) → cond b (Some x) (lookup (is_at (R q)) es) ≡ Some v
        go true h (inl z) rec = ap (λ (u : K × V). Some u.1) z
        go true h (inr d) rec =
            let one : q ≡ k = exact q k (is_equal (R q k) h) in
            let less : R k q ≡ Less = all_in (λ j. R k j ≡ Less) es q v s.0 d in
            let both : Less ≡ Equal = sym less ∙ ap (λ j. R k j) one ∙ self k in
            let w : ⊥ = cc in absurd w
        go false h (inl z) rec =
            let one : k ≡ q = ap (λ (u : K × V). u.0) z in
            let both : is_eq (R q k) ≡ true = ap is_eq (ap (λ j. R q j) one ∙ self q) in
            let w : ⊥ = cc in absurd w
        go false h (inr d) rec = rec d
