-- The inlined nonterminals in order of their names are just those that are inlined: for the tasks at the start.
use Rattle.std.proofs.Common.{◌≡◌, [], ◌∷◌, refl, ap, sym, ◌∙◌, subst, inl, inr, true, false, cond}
use Rattle.std.specs.Prelude.{Bool, Option, Some, None, map, filter}
use Rattle.std.specs.List.{AllByRecursion}
use Rattle.std.specs.List.Sorted.{IsStrictlySortedBy}
use Rattle.std.specs.Map.{keys_of}
use Rattle.std.specs.Ordering.{is_eq}
use Rattle.std.specs.declared.cmp.Ordering.TheVariants.{Less}
use Rattle.lalrpop_grammar_symbols.specs.Symbols.{Text}
use Rattle.lalrpop_grammar_symbols.specs.contracts.names.NonterminalStringOrd.TheImpl as names
use Rattle.lalrpop_grammar_symbols.specs.declared.names.NonterminalString.{NonterminalString}
use Rattle.lalrpop_grammar_language.specs.Among.{Among}
use Rattle.lalrpop_grammar_language.proofs.PlaceLemmas.{among_filter, among_map}
use Rattle.lalrpop_grammar_repr.specs.Maps.{at_name}
use Rattle.lalrpop_grammar_repr.specs.declared.production.NonterminalData.{NonterminalData}
use Rattle.lalrpop_lr1_inline.specs.InlinedNames.{NonterminalEntries, data_named, inlined_names, is_inlined_name, is_marked_data}
use Rattle.lalrpop_lr1_inline.specs.InlinedNames.{is_marked_inline, name_of_text}
use Rattle.lalrpop_lr1_inline.specs.InliningOrders.{HasAllInlined}
use Rattle.lalrpop_grammar_symbols.proofs.NameLemmas.{same_name}

all_below : (k : NonterminalString) (g : NonterminalEntries) (e : NonterminalString × NonterminalData) →
    AllByRecursion (λ y. (names.ghosts).cmp k y ≡ Less) (keys_of g) → Among g e → (names.ghosts).cmp k e.0 ≡ Less
all_below k [] e all i = absurd i
all_below k (d ∷ g) e all (inl same) =
    subst (λ (x : NonterminalString × NonterminalData). (names.ghosts).cmp k x.0 ≡ Less) same all.0
all_below k (d ∷ g) e all (inr i) = all_below k g e all.1 i

-- what stands in a map is found at its key
pub lookup_entry : (g : NonterminalEntries) → IsStrictlySortedBy (names.ghosts).cmp (keys_of g) →
    (e : NonterminalString × NonterminalData) → Among g e → at_name e.0 g ≡ Some e.1
unfolding IsStrictlySortedBy
lookup_entry [] sorted e i = absurd i
lookup_entry (d ∷ g) sorted e (inl same) =
    ap (λ b. cond b (Some d.1) (at_name e.0 g)) ((same_name e.0 d.0).1 (ap (λ (x : NonterminalString
    × NonterminalData). x.0) (sym same)))
    ∙ ap (λ (x : NonterminalString × NonterminalData). Some x.1) same
lookup_entry (d ∷ g) sorted e (inr i) = go (is_eq ((names.ghosts).cmp e.0 d.0)) refl (lookup_entry g sorted.1 e i)
  where
    go : (b : Bool) → is_eq ((names.ghosts).cmp e.0 d.0) ≡ b → at_name e.0 g ≡ Some e.1 →
        cond b (Some d.1) (at_name e.0 g) ≡ Some e.1
    go false f ih = ih
    go true f ih =
        let same : d.0 ≡ e.0 = sym ((same_name e.0 d.0).0 f) in
        let below : (names.ghosts).cmp d.0 e.0 ≡ Less = all_below d.0 g e sorted.0 i in
        let equal : is_eq ((names.ghosts).cmp d.0 e.0) ≡ true = (same_name d.0 e.0).1 same in
        absurd (let wrong : false ≡ true = sym (ap is_eq below) ∙ equal in cc)

-- and what is found stands there
pub entry_found : (g : NonterminalEntries) (n : NonterminalString) (d : NonterminalData) → at_name n g ≡ Some d → Among g (n, d)
entry_found [] n d h = (let wrong : None ≡ Some d = h in cc)
entry_found (e ∷ g) n d h = go (is_eq ((names.ghosts).cmp n e.0)) refl h (λ k. entry_found g n d k)
  where
    go : (b : Bool) → is_eq ((names.ghosts).cmp n e.0) ≡ b → cond b (Some e.1) (at_name n g) ≡ Some d →
        (at_name n g ≡ Some d → Among g (n, d)) → Among (e ∷ g) (n, d)
    go true f k ih =
        let data_is : e.1 ≡ d = (let w : Some e.1 ≡ Some d = k in cc) in
        let key_is : e.0 ≡ n = sym ((same_name n e.0).0 f) in
        inl (ap (λ (x : NonterminalString). (x, e.1)) key_is ∙ ap (λ (x : NonterminalData). (n, x)) data_is)
    go false f k ih = inr (ih k)

among_marked : (g : NonterminalEntries) (e : NonterminalString × NonterminalData) → Among g e → is_marked_inline e.1 ≡ true →
    Among (inlined_names g) e.0.0
among_marked [] e i m = absurd i
among_marked (d ∷ g) e (inl same) m =
    let marked : is_marked_inline d.1 ≡ true =
    subst (λ (x : NonterminalString × NonterminalData). is_marked_inline x.1 ≡ true) (sym same) m in
    go (is_marked_inline d.1) marked
  where
    go : (b : Bool) → b ≡ true →
        Among (map (λ (x : NonterminalString × NonterminalData). x.0.0)
        (cond b (d ∷ filter (λ (x : NonterminalString × NonterminalData). is_marked_inline x.1) g)
        (filter (λ (x : NonterminalString × NonterminalData). is_marked_inline x.1) g))) e.0.0
    go true f = inl (ap (λ (x : NonterminalString × NonterminalData). x.0.0) same)
    go false f = (let wrong : false ≡ true = f in cc)
among_marked (d ∷ g) e (inr i) m = go (is_marked_inline d.1) (among_marked g e i m)
  where
    go : (b : Bool) → Among (inlined_names g) e.0.0 →
        Among (map (λ (x : NonterminalString × NonterminalData). x.0.0)
        (cond b (d ∷ filter (λ (x : NonterminalString × NonterminalData). is_marked_inline x.1) g)
        (filter (λ (x : NonterminalString × NonterminalData). is_marked_inline x.1) g))) e.0.0
    go true j = inr j
    go false j = j

-- an inlined nonterminal is one of them
pub inlined_listed : (g : NonterminalEntries) (n : Text) → is_inlined_name g n ≡ true → Among (inlined_names g) n
inlined_listed g n h = go (data_named g n) refl h
  where
    go : (o : Option NonterminalData) → data_named g n ≡ o → is_marked_data o ≡ true → Among (inlined_names g) n
    go None e m = (let wrong : false ≡ true = m in cc)
    go (Some d) e m = among_marked g (name_of_text n, d) (entry_found g (name_of_text n) d e) m

listed_inlined : (g : NonterminalEntries) → IsStrictlySortedBy (names.ghosts).cmp (keys_of g) → (n : Text) →
    Among (inlined_names g) n → is_inlined_name g n ≡ true
listed_inlined g sorted n i =
    let r = among_map (λ (e : NonterminalString × NonterminalData). e.0.0)
    (filter (λ (e : NonterminalString × NonterminalData). is_marked_inline e.1) g) n i in
    let s = among_filter (λ (e : NonterminalString × NonterminalData). is_marked_inline e.1) g r.0 r.1 in
    subst (λ (x : Text). is_inlined_name g x ≡ true) r.2 (ap is_marked_data (lookup_entry g sorted r.0 s.0) ∙ s.1)

-- where names ascend, the list of inlined names has each inlined nonterminal and nothing else
pub all_listed : (g : NonterminalEntries) → IsStrictlySortedBy (names.ghosts).cmp (keys_of g) → HasAllInlined g (inlined_names g)
all_listed g sorted n = (inlined_listed g n, listed_inlined g sorted n)
