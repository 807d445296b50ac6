-- What an inlining order says of the places of its nonterminals: for the count of numbers and for the labels.
use Rattle.std.proofs.Common.{◌≡◌, ◌∙◌, ℕ, List, [], ◌∷◌, ◌++◌, ◌+◌, ap, append_assoc}
use Rattle.std.proofs.Common.{arith, refl, sym, subst, suc, zero, true, false, inl, inr}
use Rattle.std.specs.Prelude.{Bool, filter, flat_map, if◌then◌else◌}
use Rattle.std.specs.Str.{bytes_eq}
use Rattle.std.proofs.lemmas.Slice.Eq.{bytes_eq-Decides}
use Rattle.lalrpop_grammar_symbols.specs.Symbols.{Text}
use Rattle.lalrpop_grammar_language.specs.Among.{Among}
use Rattle.lalrpop_grammar_repr.specs.declared.production.Production.{Production}
use Rattle.lalrpop_grammar_repr.specs.declared.production.Symbol.{Symbol}
use Rattle.lalrpop_grammar_repr.specs.declared.production.Symbol.TheVariants as symbols
use Rattle.lalrpop_lr1_inline.specs.InlinedNames.{NonterminalEntries, inlined_in_symbols}
use Rattle.lalrpop_lr1_inline.specs.InlinedNames.{inlined_named_by, is_inlined_name, names_in_symbol}
use Rattle.lalrpop_lr1_inline.specs.InliningOrders.{HasAllInlined, HasNamedFirst, HasNameOnce}
use Rattle.lalrpop_lr1_inline.specs.InliningSteps.{numbers_after, productions_named}
use Rattle.lalrpop_lr1_inline.specs.NumberCounts.{counts_of, handed_out, sum_of_entries, up_to_limit}
use Rattle.lalrpop_grammar_language.proofs.StepLemmas.{among_right}
use Rattle.lalrpop_grammar_language.proofs.StepLemmas.{among_left}
use Rattle.lalrpop_lr1_inline.proofs.CountLemmas.{AreSources, numbers_are}
use Rattle.lalrpop_lr1_inline.proofs.PlaceLemmas.{places}
use Rattle.lalrpop_grammar_language.proofs.AmongLemmas.{flat_map_among}

-- a list around one that is among it
pub record IsAround (A : Type 0) (xs : List A) (x : A) : Type 0 where
  pub front : List A
  pub back : List A
  pub whole : xs ≡ front ++ x ∷ back

-- a list in which something stands is parted around it, into a front and a back
pub around : {A : Type 0} (xs : List A) (x : A) → Among xs x → IsAround A xs x
around [] x i = absurd i
around {A} (y ∷ xs) x (inl e) = record { front = []; back = xs; whole = ap (λ (z : A). z ∷ xs) e }
around (y ∷ xs) x (inr i) =
    let w = around xs x i in
    record { front = y ∷ w.front; back = w.back; whole = ap (λ l. y ∷ l) w.whole }

-- what stands in a list and passes a test still stands in it once it is filtered by the test
pub filter_among : {A : Type 0} (test : A → Bool) (xs : List A) (x : A) → Among xs x → test x ≡ true → Among (filter test xs) x
filter_among test [] x i e = absurd i
filter_among {A} test (y ∷ xs) x (inl same) e = go (test y) (ap test same ∙ e)
  where
    go : (b : Bool) → b ≡ true → Among (if b then y ∷ filter test xs else filter test xs) x
    go true f = inl same
    go false f = (let wrong : false ≡ true = f in cc)
filter_among {A} test (y ∷ xs) x (inr i) e = go (test y) (filter_among test xs x i e)
  where
    go : (b : Bool) → Among (filter test xs) x → Among (if b then y ∷ filter test xs else filter test xs) x
    go true j = inr j
    go false j = j

-- a nonterminal with a place is named there
named_by_place : (m : Text) (side : List Symbol) (k : ℕ) → places m side ≡ suc k → Among (flat_map names_in_symbol side) m
named_by_place m [] k f = absurd (omega (arith, f))
named_by_place m (symbols.Terminal t ∷ side) k f = named_by_place m side k f
named_by_place m (symbols.Nonterminal n ∷ side) k f = go (bytes_eq n.0 m) refl f (λ g. named_by_place m side k g)
  where
    go : (b : Bool) → bytes_eq n.0 m ≡ b → (if b then suc (places m side) else places m side) ≡ suc k →
        (places m side ≡ suc k → Among (flat_map names_in_symbol side) m) → Among (n.0 ∷ flat_map names_in_symbol side) m
    go true e g ih = inl ((bytes_eq-Decides n.0 m).0 e)
    go false e g ih = inr (ih g)

module _ (es : NonterminalEntries) (order : List Text) (all : HasAllInlined es order) (once : HasNameOnce order)
    (first : HasNamedFirst es order) where
  -- no nonterminal of the order names one that stands behind it
  none_behind : (front : List Text) (n : Text) (ns : List Text) → order ≡ front ++ n ∷ ns → (m : Text) → Among ns m →
      (p : Production) → Among (productions_named es n) p → places m p.symbols ≡ 0
  none_behind front n ns e m i p j = go (places m p.symbols) refl
    where
      go : (k : ℕ) → places m p.symbols ≡ k → places m p.symbols ≡ 0
      go zero f = f
      go (suc k) f =
          let listed : Among order m = subst (λ l. Among l m) (sym e) (among_right front (n ∷ ns) m (inr i)) in
          let inside = filter_among (is_inlined_name es) (flat_map names_in_symbol p.symbols) m (named_by_place m p.symbols k f)
          ((all m).1 listed) in
          let named : Among (inlined_named_by es n) m =
          flat_map_among (λ (q : Production). inlined_in_symbols es q.symbols) (productions_named es n) p m j inside in
          let before : Among front m = first front n ns m e named in
          let w = around ns m i in
          let split : order ≡ (front ++ n ∷ w.front) ++ m ∷ w.back =
          e ∙ ap (λ l. front ++ n ∷ l) w.whole ∙ sym (append_assoc front (n ∷ w.front) (m ∷ w.back)) in
          absurd ((once (front ++ n ∷ w.front) m w.back split).0 (among_left front (n ∷ w.front) m before))

  sources_from : (front ns : List Text) → order ≡ front ++ ns → AreSources es ns
  sources_from front [] e = tt
  sources_from front (n ∷ ns) e = (
    (once front n ns e).1,
    none_behind front n ns e,
    sources_from (front ++ n ∷ []) ns (e ∙ sym (append_assoc front (n ∷ []) ns)),
  )

  pub order_sources : AreSources es order
  order_sources = sources_from [] order refl

  -- so the count is that of the numbers that the steps hand out
  pub numbers_told : (k many : ℕ) → many ≡ up_to_limit (k + sum_of_entries (handed_out (counts_of es [] order)) es) →
      many ≡ up_to_limit (numbers_after order es k)
  numbers_told k many f = f ∙ ap up_to_limit (sym (numbers_are es order k order_sources))
