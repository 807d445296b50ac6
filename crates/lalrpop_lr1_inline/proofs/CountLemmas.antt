-- The numbers that the steps hand out are those counted on the right sides that are given: for `inline`.
use Rattle.std.proofs.Common.{◌≡◌, ◌+◌, ◌*◌, ◌∙◌, ℕ, List, [], ◌∷◌, ◌++◌, ap, append_assoc}
use Rattle.std.proofs.Common.{arith, refl, sym, subst, suc, true, false}
use Rattle.std.proofs.Common.{inl, inr, length}
use Rattle.std.specs.Prelude.{Bool, if◌then◌else◌}
use Rattle.std.specs.Ordering.{is_eq}
use Rattle.std.specs.List.{list_any}
use Rattle.std.proofs.Math.Nat.{mul-add, mul_assoc, mul_comm}
use Rattle.lalrpop_grammar_symbols.specs.Symbols.{Text}
use Rattle.lalrpop_grammar_symbols.specs.contracts.names.NonterminalStringOrd.TheImpl as names
use Rattle.lalrpop_grammar_symbols.specs.declared.names.NonterminalString.{NonterminalString}
use Rattle.lalrpop_grammar_language.specs.Among.{Among}
use Rattle.lalrpop_grammar_repr.specs.declared.action.InlinedSymbol.{InlinedSymbol}
use Rattle.lalrpop_grammar_repr.specs.declared.production.Production.{Production}
use Rattle.lalrpop_grammar_repr.specs.declared.production.Symbol.{Symbol}
use Rattle.lalrpop_lr1_inline.specs.InlinedNames.{NonterminalEntries, name_of_text}
use Rattle.lalrpop_lr1_inline.specs.InliningSteps.{all_records_after, entries_after, is_place, numbers_after}
use Rattle.lalrpop_lr1_inline.specs.InliningSteps.{productions_after, productions_in_place, productions_named, productions_of_records}
use Rattle.lalrpop_lr1_inline.specs.InliningSteps.{records_after, records_in_place, records_of, side_of_record}
use Rattle.lalrpop_lr1_inline.specs.NumberCounts.{InlinedCounts, becomes_many, choices_at, counts_of, handed_out, sum_of_entries}
use Rattle.lalrpop_lr1_inline.specs.NumberCounts.{sum_of_sides}
use Rattle.lalrpop_grammar_language.proofs.StepOnceLemmas.{append-none}
use Rattle.lalrpop_lr1_inline.proofs.LimitLemmas.{choices_none}
use Rattle.lalrpop_lr1_inline.proofs.MadeLemmas.{count_on}
use Rattle.lalrpop_lr1_inline.proofs.PlaceLemmas.{places, record_places, records_many, same_any, same_choices}
use Rattle.lalrpop_lr1_inline.proofs.StepRuleLemmas.{all_count_on}
use Rattle.lalrpop_lr1_inline.proofs.StepsLemmas.{looked_by}

-- sums over right sides
side_same : (f g : List Symbol → ℕ) → ((s : List Symbol) → f s ≡ g s) → (ps : List Production) →
    sum_of_sides f ps ≡ sum_of_sides g ps
side_same f g each [] = refl
side_same f g each (p ∷ ps) = ap (λ k. k + sum_of_sides f ps) (each p.symbols) ∙ ap (λ k. g p.symbols + k) (side_same f g each ps)

entry_same : (f g : List Symbol → ℕ) → ((s : List Symbol) → f s ≡ g s) → (es : NonterminalEntries) →
    sum_of_entries f es ≡ sum_of_entries g es
entry_same f g each [] = refl
entry_same f g each (e ∷ es) =
    ap (λ k. k + sum_of_entries f es) (side_same f g each e.1.productions)
    ∙ ap (λ k. sum_of_sides g e.1.productions + k) (entry_same f g each es)

side_plus : (f g : List Symbol → ℕ) (ps : List Production) →
    sum_of_sides f ps + sum_of_sides g ps ≡ sum_of_sides (λ s. f s + g s) ps
side_plus f g [] = omega arith
side_plus f g (p ∷ ps) = omega (arith, side_plus f g ps)

entry_plus : (f g : List Symbol → ℕ) (es : NonterminalEntries) →
    sum_of_entries f es + sum_of_entries g es ≡ sum_of_entries (λ s. f s + g s) es
entry_plus f g [] = omega arith
entry_plus f g (e ∷ es) = omega (arith, entry_plus f g es, side_plus f g e.1.productions)

side-append : (f : List Symbol → ℕ) (ps qs : List Production) → sum_of_sides f (ps ++ qs) ≡ sum_of_sides f ps + sum_of_sides f qs
side-append f [] qs = omega arith
side-append f (p ∷ ps) qs = omega (arith, side-append f ps qs)

side_zero : (f : List Symbol → ℕ) (ps : List Production) → ((p : Production) → Among ps p → f p.symbols ≡ 0) →
    sum_of_sides f ps ≡ 0
side_zero f [] none = refl
side_zero f (p ∷ ps) none = omega (arith, none p (inl refl), side_zero f ps (λ q i. none q (inr i)))

each_zero : (f : List Symbol → ℕ) (ps : List Production) → sum_of_sides f ps ≡ 0 → (p : Production) →
    Among ps p → f p.symbols ≡ 0
each_zero f [] h p i = absurd i
each_zero f (q ∷ ps) h p (inl same) = ap (λ (x : Production). f x.symbols) (sym same) ∙ omega (arith, h)
each_zero f (q ∷ ps) h p (inr i) = each_zero f ps (omega (arith, h)) p i

entry_zero : (f : List Symbol → ℕ) → ((s : List Symbol) → f s ≡ 0) → (es : NonterminalEntries) → sum_of_entries f es ≡ 0
entry_zero f none [] = refl
entry_zero f none (e ∷ es) = omega (arith, side_zero f e.1.productions (λ p i. none p.symbols), entry_zero f none es)

side_ones : (ps : List Production) → length ps ≡ sum_of_sides (λ s. 1) ps
side_ones [] = refl
side_ones (p ∷ ps) = omega (arith, side_ones ps)

-- what is told by the places of these nonterminals alone
abbrev Respects : List Text → (List Symbol → ℕ) → Type 0
Respects ns f = (a b : List Symbol) → ((m : Text) → Among ns m → places m a ≡ places m b) → f a ≡ f b

-- how many numbers the step hands out for a right side
abbrev handed_here : Text → ℕ → List Symbol → ℕ
handed_here n many s = if list_any (is_place n) s then choices_at n many s else 0

one_more : (a b : ℕ) → b + a * b ≡ suc a * b
one_more a b = omega (arith, mul_comm a b, mul_comm (suc a) b)

module _ (n : Text) (ps : List Production) where
  -- what the step makes of productions, where the records don't change what is summed up
  module _ (f : List Symbol → ℕ)
      (keeps : (side : List Symbol) (r : List InlinedSymbol) → Among (records_of n ps side) r → f (side_of_record r) ≡ f side) where
    made_sum : (p : Production) (rs : List (List InlinedSymbol)) (k : ℕ) →
        ((r : List InlinedSymbol) → Among rs r → f (side_of_record r) ≡ f p.symbols) →
        sum_of_sides f (productions_of_records p rs k) ≡ length rs * f p.symbols
    made_sum p [] k same = omega arith
    made_sum p (r ∷ rs) k same =
        ap (λ x. x + sum_of_sides f (productions_of_records p rs (k + 1))) (same r (inl refl))
        ∙ ap (λ x. f p.symbols + x) (made_sum p rs (k + 1) (λ q i. same q (inr i))) ∙ one_more (length rs) (f p.symbols)

    place_sum : (p : Production) (k : ℕ) →
        sum_of_sides f (productions_in_place n ps p k) ≡ choices_at n (length ps) p.symbols * f p.symbols
    place_sum p k = go (list_any (is_place n) p.symbols) refl
      where
        go : (b : Bool) → list_any (is_place n) p.symbols ≡ b →
            sum_of_sides f (if b then productions_of_records p (records_of n ps p.symbols) k else p ∷ [])
            ≡ choices_at n (length ps) p.symbols * f p.symbols
        go true e =
            made_sum p (records_of n ps p.symbols) k (keeps p.symbols) ∙ ap (λ x. x * f p.symbols) (records_many n ps p.symbols)
        go false e = omega arith ∙ ap (λ x. x * f p.symbols) (sym (choices_none n (length ps) p.symbols e))

    sides_after : (qs : List Production) (k : ℕ) →
        sum_of_sides f (productions_after n ps qs k) ≡ sum_of_sides (λ s. choices_at n (length ps) s * f s) qs
    sides_after [] k = refl
    sides_after (p ∷ qs) k =
        side-append f (productions_in_place n ps p k) (productions_after n ps qs (k + length (records_in_place n ps p)))
        ∙ ap (λ x. x + sum_of_sides f (productions_after n ps qs (k + length (records_in_place n ps p)))) (place_sum p k)
        ∙ ap (λ x. choices_at n (length ps) p.symbols * f p.symbols + x) (sides_after qs (k + length (records_in_place n ps p)))

  -- how many numbers the step hands out
  here_many : (p : Production) → length (records_in_place n ps p) ≡ handed_here n (length ps) p.symbols
  here_many p = go (list_any (is_place n) p.symbols)
    where
      go : (b : Bool) →
          length (if b then records_of n ps p.symbols else []) ≡ (if b then choices_at n (length ps) p.symbols else 0)
      go true = records_many n ps p.symbols
      go false = refl

  sides_many : (qs : List Production) → length (records_after n ps qs) ≡ sum_of_sides (handed_here n (length ps)) qs
  sides_many [] = refl
  sides_many (p ∷ qs) =
      count_on n ps (p ∷ qs) qs p refl ∙ ap (λ k. k + length (records_after n ps qs)) (here_many p)
      ∙ ap (λ k. handed_here n (length ps) p.symbols + k) (sides_many qs)

  entries_many : (es : NonterminalEntries) → length (all_records_after n ps es) ≡ sum_of_entries (handed_here n (length ps)) es
  entries_many [] = refl
  entries_many (e ∷ es) =
      all_count_on n ps (e ∷ es) es e refl ∙ ap (λ k. k + length (all_records_after n ps es)) (sides_many e.1.productions)
      ∙ ap (λ k. sum_of_sides (handed_here n (length ps)) e.1.productions + k) (entries_many es)

-- Entries after some steps, beside those that were given: what is told by the places of nonterminals that are still to be inlined
-- sums up to what the right sides that were given tell, each as often as it was made more.
abbrev Grown : List Text → InlinedCounts → NonterminalEntries → NonterminalEntries → Type 0
Grown ns done [] [] = Unit {0}
Grown ns done [] (d ∷ ds) = ⊥
Grown ns done (e ∷ es) [] = ⊥
Grown ns done (e ∷ es) (d ∷ ds) =
    (e.0 ≡ d.0)
    × ((f : List Symbol → ℕ) → Respects ns f →
    sum_of_sides f e.1.productions ≡ sum_of_sides (λ s. becomes_many done s * f s) d.1.productions)
    × Grown ns done es ds

grown_start : (ns : List Text) (es : NonterminalEntries) → Grown ns [] es es
grown_start ns [] = tt
grown_start ns (e ∷ es) = (refl, λ f keeps. side_same f (λ s. 1 * f s) (λ s. omega arith) e.1.productions, grown_start ns es)

grown_named : (ns : List Text) (done : InlinedCounts) (es ds : NonterminalEntries) → Grown ns done es ds → (n : Text) →
    (f : List Symbol → ℕ) → Respects ns f →
    sum_of_sides f (productions_named es n) ≡ sum_of_sides (λ s. becomes_many done s * f s) (productions_named ds n)
grown_named ns done [] [] h n f keeps = refl
grown_named ns done [] (d ∷ ds) h n f keeps = absurd h
grown_named ns done (e ∷ es) [] h n f keeps = absurd h
grown_named ns done (e ∷ es) (d ∷ ds) h n f keeps =
    go (is_eq ((names.ghosts).cmp (name_of_text n) d.0)) refl (grown_named ns done es ds h.2 n f keeps)
  where
    go : (b : Bool) → is_eq ((names.ghosts).cmp (name_of_text n) d.0) ≡ b →
        sum_of_sides f (productions_named es n) ≡ sum_of_sides (λ s. becomes_many done s * f s) (productions_named ds n) →
        sum_of_sides f (productions_named (e ∷ es) n)
        ≡ sum_of_sides (λ s. becomes_many done s * f s) (productions_named (d ∷ ds) n)
    go true g ih =
        ap (sum_of_sides f) (looked_by n e es true
        (ap (λ (k : NonterminalString). is_eq ((names.ghosts).cmp (name_of_text n) k)) h.0 ∙ g))
        ∙ h.1 f keeps ∙ ap (sum_of_sides (λ s. becomes_many done s * f s)) (sym (looked_by n d ds true g))
    go false g ih =
        ap (sum_of_sides f) (looked_by n e es false
        (ap (λ (k : NonterminalString). is_eq ((names.ghosts).cmp (name_of_text n) k)) h.0 ∙ g))
        ∙ ih ∙ ap (sum_of_sides (λ s. becomes_many done s * f s)) (sym (looked_by n d ds false g))

grown_entries : (ns : List Text) (done : InlinedCounts) (es ds : NonterminalEntries) → Grown ns done es ds →
    (f : List Symbol → ℕ) → Respects ns f → sum_of_entries f es ≡ sum_of_entries (λ s. becomes_many done s * f s) ds
grown_entries ns done [] [] h f keeps = refl
grown_entries ns done [] (d ∷ ds) h f keeps = absurd h
grown_entries ns done (e ∷ es) [] h f keeps = absurd h
grown_entries ns done (e ∷ es) (d ∷ ds) h f keeps =
    ap (λ k. k + sum_of_entries f es) (h.1 f keeps)
    ∙ ap (λ k. sum_of_sides (λ s. becomes_many done s * f s) d.1.productions + k) (grown_entries ns done es ds h.2 f keeps)

becomes_last : (done : InlinedCounts) (n : Text) (many : ℕ) (s : List Symbol) →
    becomes_many (done ++ (n, many) ∷ []) s ≡ becomes_many done s * choices_at n many s
becomes_last [] n many s = omega arith
becomes_last (c ∷ done) n many s =
    ap (λ k. choices_at c.0 c.1 s * k) (becomes_last done n many s)
    ∙ sym (mul_assoc (choices_at c.0 c.1 s) (becomes_many done s) (choices_at n many s))

-- one step further on
grown_on : (n : Text) (ns : List Text) (done : InlinedCounts) (ps : List Production) (es ds : NonterminalEntries) (k : ℕ) →
    (Among ns n → ⊥) → ((m : Text) → Among ns m → (p : Production) → Among ps p → places m p.symbols ≡ 0) →
    Grown (n ∷ ns) done es ds → Grown ns (done ++ (n, length ps) ∷ []) (entries_after n ps es k) ds
grown_on n ns done ps [] [] k apart none h = tt
grown_on n ns done ps [] (d ∷ ds) k apart none h = absurd h
grown_on n ns done ps (e ∷ es) [] k apart none h = absurd h
grown_on n ns done ps (e ∷ es) (d ∷ ds) k apart none h = (
  h.0,
  λ f keeps.
      sides_after n ps f
      (λ side r i. keeps (side_of_record r) side
      (λ m j. record_places n m ps (λ same. apart (subst (λ x. Among ns x) same j)) (none m j) side r i)) e.1.productions k
      ∙ h.1 (λ s. choices_at n (length ps) s * f s)
      (λ a b same. ap (λ x. x * f a) (same_choices n (length ps) a b (same n (inl refl)))
      ∙ ap (λ x. choices_at n (length ps) b * x) (keeps a b (λ m i. same m (inr i))))
      ∙ side_same (λ s. becomes_many done s * (choices_at n (length ps) s * f s))
      (λ s. becomes_many (done ++ (n, length ps) ∷ []) s * f s)
      (λ s. sym (mul_assoc (becomes_many done s) (choices_at n (length ps) s) (f s))
      ∙ ap (λ x. x * f s) (sym (becomes_last done n (length ps) s)))
      d.1.productions,
  grown_on n ns done ps es ds (k + length (records_after n ps e.1.productions)) apart none h.2,
)

-- each nonterminal of the order stands once, and names none that stands behind it
abbrev pub AreSources : NonterminalEntries → List Text → Type 0
AreSources es [] = Unit {0}
AreSources es (n ∷ ns) =
    (Among ns n → ⊥)
    × ((m : Text) → Among ns m → (p : Production) → Among (productions_named es n) p → places m p.symbols ≡ 0)
    × AreSources es ns

-- the counts behind those that are done
rest_counts : NonterminalEntries → InlinedCounts → List Text → InlinedCounts
rest_counts es done [] = []
rest_counts es done (n ∷ ns) =
    (n, sum_of_sides (becomes_many done) (productions_named es n))
    ∷ rest_counts es (done ++ (n, sum_of_sides (becomes_many done) (productions_named es n)) ∷ []) ns

counts_rest : (es : NonterminalEntries) (done : InlinedCounts) (ns : List Text) →
    counts_of es done ns ≡ done ++ rest_counts es done ns
unfolding rest_counts
counts_rest es done [] = sym (append-none done)
counts_rest es done (n ∷ ns) =
    let c : Text × ℕ = (n, sum_of_sides (becomes_many done) (productions_named es n)) in
    counts_rest es (done ++ c ∷ []) ns ∙ append_assoc done (c ∷ []) (rest_counts es (done ++ c ∷ []) ns)

abbrev total_of : NonterminalEntries → InlinedCounts → InlinedCounts → ℕ
total_of ds done cs = sum_of_entries (λ s. becomes_many done s * handed_out cs s) ds

-- what one step hands out and what those behind it do
joined_numbers : (ds : NonterminalEntries) (done cs : InlinedCounts) (n : Text) (many : ℕ) →
    sum_of_entries (λ s. becomes_many done s * handed_here n many s) ds + total_of ds (done ++ (n, many) ∷ []) cs
    ≡ total_of ds done ((n, many) ∷ cs)
joined_numbers ds done cs n many =
    entry_plus (λ s. becomes_many done s * handed_here n many s) (λ s. becomes_many (done ++ (n, many) ∷ []) s * handed_out cs s) ds
    ∙ entry_same
    (λ s. becomes_many done s * handed_here n many s + becomes_many (done ++ (n, many) ∷ []) s * handed_out cs s)
    (λ s. becomes_many done s * handed_out ((n, many) ∷ cs) s)
    (λ s. ap (λ k. becomes_many done s * handed_here n many s + k * handed_out cs s) (becomes_last done n many s)
    ∙ ap (λ k. becomes_many done s * handed_here n many s + k)
    (mul_assoc (becomes_many done s) (choices_at n many s) (handed_out cs s))
    ∙ sym (mul-add (becomes_many done s) (handed_here n many s) (choices_at n many s * handed_out cs s)))
    ds

numbers_from : (ds : NonterminalEntries) (ns : List Text) (done : InlinedCounts) (es : NonterminalEntries) (k : ℕ) →
    Grown ns done es ds → AreSources ds ns → numbers_after ns es k ≡ k + total_of ds done (rest_counts ds done ns)
unfolding rest_counts
numbers_from ds [] done es k grown sources =
    omega (arith, entry_zero (λ s. becomes_many done s * 0) (λ s. omega arith) ds)
numbers_from ds (n ∷ ns) done es k grown sources =
    let ps = productions_named es n in
    let none : (m : Text) → Among ns m → (p : Production) → Among ps p → places m p.symbols ≡ 0 =
    λ m i. each_zero (places m) ps
    (grown_named (n ∷ ns) done es ds grown n (places m) (λ a b same. same m (inr i))
    ∙ side_zero (λ s. becomes_many done s * places m s) (productions_named ds n)
    (λ p j. ap (λ x. becomes_many done p.symbols * x) (sources.1 m i p j) ∙ omega arith)) in
    let many : length ps ≡ sum_of_sides (becomes_many done) (productions_named ds n) =
    side_ones ps ∙ grown_named (n ∷ ns) done es ds grown n (λ s. 1) (λ a b same. refl)
    ∙ side_same (λ s. becomes_many done s * 1) (becomes_many done) (λ s. omega arith) (productions_named ds n) in
    let handed : length (all_records_after n ps es)
    ≡ sum_of_entries (λ s. becomes_many done s * handed_here n (length ps) s) ds =
    entries_many n ps es
    ∙ grown_entries (n ∷ ns) done es ds grown (handed_here n (length ps))
    (λ a b same. ap (λ (t : Bool). if t then choices_at n (length ps) a else 0) (same_any n a b (same n (inl refl)))
    ∙ ap (λ x. if list_any (is_place n) b then x else 0) (same_choices n (length ps) a b (same n (inl refl)))) in
    let rest = rest_counts ds (done ++ (n, length ps) ∷ []) ns in
    let later = numbers_from ds ns (done ++ (n, length ps) ∷ []) (entries_after n ps es k) (k + length (all_records_after n ps es))
    (grown_on n ns done ps es ds k sources.0 none grown) sources.2 in
    let whole = joined_numbers ds done rest n (length ps) in
    let here : numbers_after (n ∷ ns) es k ≡ k + total_of ds done ((n, length ps) ∷ rest) = omega (arith, later, handed, whole) in
    here
    ∙ ap (λ x. k + total_of ds done ((n, x) ∷ rest_counts ds (done ++ (n, x) ∷ []) ns)) many

-- the numbers of all steps
pub numbers_are : (es : NonterminalEntries) (ns : List Text) (k : ℕ) → AreSources es ns →
    numbers_after ns es k ≡ k + sum_of_entries (handed_out (counts_of es [] ns)) es
numbers_are es ns k sources =
    numbers_from es ns [] es k (grown_start ns es) sources
    ∙ ap (λ x. k + x)
    (entry_same (λ s. 1 * handed_out (rest_counts es [] ns) s) (handed_out (rest_counts es [] ns)) (λ s. omega arith) es)
    ∙ ap (λ cs. k + sum_of_entries (handed_out cs) es) (sym (counts_rest es [] ns))
