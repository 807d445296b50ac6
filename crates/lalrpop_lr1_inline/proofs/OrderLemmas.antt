-- What an inlining order has: all that is inlined, each once, what one names before it; and so no chain returns.
use Rattle.std.proofs.Common.{◌≡◌, List, [], ◌∷◌, ◌++◌, refl, ap, sym, ◌∙◌, subst, inl, inr, ◌⊎◌, true}
use Rattle.std.proofs.Common.{append_assoc}
use Rattle.std.specs.Prelude.{reverse}
use Rattle.lalrpop_grammar_symbols.specs.Symbols.{Text}
use Rattle.lalrpop_grammar_language.specs.Among.{Among}
use Rattle.lalrpop_lr1_inline.specs.InlinedNames.{NonterminalEntries, inlined_named_by, inlined_names, is_inlined_name}
use Rattle.lalrpop_lr1_inline.specs.InliningOrders.{HasAllInlined, HasNameOnce, HasNamedFirst, IsInliningOrder, IsOrderWalk, OrderWalk}
use Rattle.lalrpop_lr1_inline.specs.InliningOrders.{order_of_walk}
use Rattle.lalrpop_lr1_inline.specs.InlineFaults.{IsInlineChain, IsInlinedIntoItself}
use Rattle.lalrpop_lr1_inline.proofs.AmongLemmas.{among_reverse, reverse_among}
use Rattle.lalrpop_grammar_language.proofs.StepOnceLemmas.{append-none}
use Rattle.lalrpop_grammar_language.proofs.StepLemmas.{among_right}
use Rattle.lalrpop_grammar_language.proofs.StepLemmas.{among_left}
use Rattle.lalrpop_grammar_language.proofs.OrderLemmas.{among_parts}
use Rattle.lalrpop_lr1_inline.proofs.SearchLemmas.{named_inlined}

-- each name is new, and what it names stands before it
abbrev IsNextName : NonterminalEntries → List Text → Text → Type 0
IsNextName g before n = (Among before n → ⊥) × ((m : Text) → Among (inlined_named_by g n) m → Among before m)

abbrev pub AreNextNames : NonterminalEntries → List Text → List Text → Type 0
AreNextNames g before [] = Unit {0}
AreNextNames g before (n ∷ ns) = IsNextName g before n × AreNextNames g (before ++ n ∷ []) ns

next-append : (g : NonterminalEntries) (before xs ys : List Text) → AreNextNames g before xs → AreNextNames g (before ++ xs) ys →
    AreNextNames g before (xs ++ ys)
next-append g before [] ys h k = subst (λ (l : List Text). AreNextNames g l ys) (append-none before) k
next-append g before (x ∷ xs) ys h k = (
  h.0,
  next-append g (before ++ x ∷ []) xs ys h.1
      (subst (λ (l : List Text). AreNextNames g l ys) (sym (append_assoc before (x ∷ []) xs)) k),
)

next-split : (g : NonterminalEntries) (before xs ys : List Text) → AreNextNames g before (xs ++ ys) → AreNextNames g (before ++ xs) ys
next-split g before [] ys h = subst (λ (l : List Text). AreNextNames g l ys) (sym (append-none before)) h
next-split g before (x ∷ xs) ys h =
    subst (λ (l : List Text). AreNextNames g l ys) (append_assoc before (x ∷ []) xs) (next-split g (before ++ x ∷ []) xs ys h.1)

next-apart : (g : NonterminalEntries) (before xs : List Text) (m : Text) → AreNextNames g before xs → Among before m →
    Among xs m → ⊥
next-apart g before [] m h i j = j
next-apart g before (x ∷ xs) m h i (inl e) = h.0.0 (subst (Among before) (sym e) i)
next-apart g before (x ∷ xs) m h i (inr j) = next-apart g (before ++ x ∷ []) xs m h.1 (among_left before (x ∷ []) m i) j

-- each name of a walk was met before or is met
walk_covers : (g : NonterminalEntries) (before ns : List Text) (w : OrderWalk) → IsOrderWalk g before ns w → (n : Text) →
    Among ns n →
    Among (before ++ order_of_walk w) n
walk_covers g before [] OrderWalk.no_more h n i = absurd i
walk_covers g before [] (OrderWalk.met_before w) h n i = absurd h
walk_covers g before [] (OrderWalk.met_first m inside w) h n i = absurd h
walk_covers g before (x ∷ ns) OrderWalk.no_more h n i = absurd h
walk_covers g before (x ∷ ns) (OrderWalk.met_before w) h n (inl e) =
    among_left before (order_of_walk w) n (subst (Among before) e h.0)
walk_covers g before (x ∷ ns) (OrderWalk.met_before w) h n (inr i) = walk_covers g before ns w h.1 n i
walk_covers g before (x ∷ ns) (OrderWalk.met_first m inside w) h n (inl e) =
    among_right before (order_of_walk inside ++ m ∷ order_of_walk w) n
    (among_right (order_of_walk inside) (m ∷ order_of_walk w) n (inl (h.0 ∙ e)))
walk_covers g before (x ∷ ns) (OrderWalk.met_first m inside w) h n (inr i) =
    go (among_parts (before ++ order_of_walk inside ++ x
    ∷ []) (order_of_walk w) n (walk_covers g (before ++ order_of_walk inside ++ x ∷ []) ns w h.3 n i))
  where
    last : Among (x ∷ []) n ⊎ ⊥ → Among (before ++ (order_of_walk inside ++ m ∷ order_of_walk w)) n
    last (inl (inl e)) =
        among_right before (order_of_walk inside ++ m ∷ order_of_walk w) n
        (among_right (order_of_walk inside) (m ∷ order_of_walk w) n (inl (h.0 ∙ e)))
    last (inl (inr f)) = absurd f
    last (inr f) = absurd f

    inner : Among before n ⊎ Among (order_of_walk inside) n → Among (before ++ (order_of_walk inside ++ m ∷ order_of_walk w)) n
    inner (inl j) = among_left before (order_of_walk inside ++ m ∷ order_of_walk w) n j
    inner (inr j) =
        among_right before (order_of_walk inside ++ m ∷ order_of_walk w) n
        (among_left (order_of_walk inside) (m ∷ order_of_walk w) n j)

    outer : Among (before ++ order_of_walk inside) n ⊎ Among (x ∷ []) n →
        Among (before ++ (order_of_walk inside ++ m ∷ order_of_walk w)) n
    outer (inl j) = inner (among_parts before (order_of_walk inside) n j)
    outer (inr j) = last (inl j)

    go : Among (before ++ order_of_walk inside ++ x ∷ []) n ⊎ Among (order_of_walk w) n →
        Among (before ++ (order_of_walk inside ++ m ∷ order_of_walk w)) n
    go (inl j) = outer (among_parts (before ++ order_of_walk inside) (x ∷ []) n j)
    go (inr j) =
        among_right before (order_of_walk inside ++ m ∷ order_of_walk w) n
        (among_right (order_of_walk inside) (m ∷ order_of_walk w) n (inr j))

-- what the names name is among them
abbrev AreShut : NonterminalEntries → List Text → Type 0
AreShut g ns = (n : Text) → Among ns n → (m : Text) → Among (inlined_named_by g n) m → Among ns m

next-shut : (g : NonterminalEntries) (before xs : List Text) → AreNextNames g before xs → AreShut g before → AreShut g (before ++ xs)
next-shut g before [] h shut = subst (AreShut g) (sym (append-none before)) shut
next-shut g before (x ∷ xs) h shut =
    subst (AreShut g) (append_assoc before (x ∷ []) xs) (next-shut g (before ++ x ∷ []) xs h.1 more)
  where
    go : (n m : Text) → Among before n ⊎ Among (x ∷ []) n → Among (inlined_named_by g n) m → Among (before ++ x ∷ []) m
    go n m (inl i) j = among_left before (x ∷ []) m (shut n i m j)
    go n m (inr (inl e)) j =
        among_left before (x ∷ []) m (h.0.1 m (subst (λ (y : Text). Among (inlined_named_by g y) m) (sym e) j))
    go n m (inr (inr i)) j = absurd i

    more : AreShut g (before ++ x ∷ [])
    more n i m j = go n m (among_parts before (x ∷ []) n i) j

next-front : (g : NonterminalEntries) (before xs ys : List Text) → AreNextNames g before (xs ++ ys) → AreNextNames g before xs
next-front g before [] ys h = tt
next-front g before (x ∷ xs) ys h = (h.0, next-front g (before ++ x ∷ []) xs ys h.1)

-- a chain doesn't leave names that are shut
chain_shut : (g : NonterminalEntries) (ns : List Text) → AreShut g ns → (n : Text) (between : List Text) (m : Text) →
    ((k : Text) → Among (inlined_named_by g n) k → Among ns k) → IsInlineChain g n between m → Among ns m
chain_shut g ns shut n [] m named c = named m c
chain_shut g ns shut n (k ∷ between) m named c = chain_shut g ns shut k between m (shut k (named k c.0)) c.1

-- one of a list with what stands before and behind it
pub record IsParted (xs : List Text) (n : Text) : Type 0 where
  pub front : List Text
  pub back : List Text
  pub parts : xs ≡ front ++ n ∷ back

among_parted : (xs : List Text) (n : Text) → Among xs n → IsParted xs n
among_parted [] n i = absurd i
among_parted (x ∷ xs) n (inl e) = record { front = []; back = xs; parts = ap (λ y. y ∷ xs) e }
among_parted (x ∷ xs) n (inr i) =
    let r = among_parted xs n i in
    record { front = x ∷ r.front; back = r.back; parts = ap (λ l. x ∷ l) r.parts }

-- no chain returns to a name that comes next
no_return : (g : NonterminalEntries) (before xs : List Text) → AreNextNames g before xs → AreShut g before → (n : Text) →
    Among xs n →
    (between : List Text) → IsInlineChain g n between n → ⊥
no_return g before xs h shut n i between c =
    let r = among_parted xs n i in
    let k : AreNextNames g before (r.front ++ n ∷ r.back) = subst (AreNextNames g before) r.parts h in
    let front = next-front g before r.front (n ∷ r.back) k in
    let rest = next-split g before r.front (n ∷ r.back) k in
    rest.0.0 (chain_shut g (before ++ r.front) (next-shut g before r.front front shut) n between n rest.0.1 c)

-- a chain leads to each name of a walk from one of those that are walked, or it is one of them
pub record IsReached (g : NonterminalEntries) (ns : List Text) (n : Text) : Type 0 where
  pub from : Text
  pub is_walked : Among ns from
  pub reached : (from ≡ n) ⊎ ((between : List Text) × IsInlineChain g from between n)

reached_inside : (g : NonterminalEntries) (x n : Text) → IsReached g (reverse (inlined_named_by g x)) n →
    (between : List Text) × IsInlineChain g x between n
reached_inside g x n r = go r.reached
  where
    named : Among (inlined_named_by g x) r.from
    named = among_reverse (inlined_named_by g x) r.from r.is_walked

    go : (r.from ≡ n) ⊎ ((between : List Text) × IsInlineChain g r.from between n) → (between : List Text)
        × IsInlineChain g x between n
    go (inl e) = ([], subst (Among (inlined_named_by g x)) e named)
    go (inr c) = (r.from ∷ c.0, (named, c.1))

walk_reaches : (g : NonterminalEntries) (before ns : List Text) (w : OrderWalk) → IsOrderWalk g before ns w → (n : Text) →
    Among (order_of_walk w) n → IsReached g ns n
walk_reaches g before [] OrderWalk.no_more h n i = absurd i
walk_reaches g before [] (OrderWalk.met_before w) h n i = absurd h
walk_reaches g before [] (OrderWalk.met_first m inside w) h n i = absurd h
walk_reaches g before (x ∷ ns) OrderWalk.no_more h n i = absurd h
walk_reaches g before (x ∷ ns) (OrderWalk.met_before w) h n i =
    let r = walk_reaches g before ns w h.1 n i in record { from = r.from; is_walked = inr r.is_walked; reached = r.reached }
walk_reaches g before (x ∷ ns) (OrderWalk.met_first m inside w) h n i =
    go (among_parts (order_of_walk inside) (m
    ∷ order_of_walk w) n i) (λ j. walk_reaches g before (reverse (inlined_named_by g x)) inside h.2 n j)
    (λ j. walk_reaches g (before ++ order_of_walk inside ++ x ∷ []) ns w h.3 n j)
  where
    go : Among (order_of_walk inside) n ⊎ Among (m ∷ order_of_walk w) n →
        (Among (order_of_walk inside) n → IsReached g (reverse (inlined_named_by g x)) n) →
        (Among (order_of_walk w) n → IsReached g ns n) → IsReached g (x ∷ ns) n
    go (inl j) first later = record { from = x; is_walked = inl refl; reached = inr (reached_inside g x n (first j)) }
    go (inr (inl e)) first later = record { from = x; is_walked = inl refl; reached = inl (sym h.0 ∙ e) }
    go (inr (inr j)) first later =
        let r = later j in record { from = r.from; is_walked = inr r.is_walked; reached = r.reached }

-- the names of a walk come one after the other
walk_next : (g : NonterminalEntries) (before ns : List Text) (w : OrderWalk) → IsOrderWalk g before ns w → AreShut g before →
    AreNextNames g before (order_of_walk w)
walk_next g before [] OrderWalk.no_more h shut = tt
walk_next g before [] (OrderWalk.met_before w) h shut = absurd h
walk_next g before [] (OrderWalk.met_first m inside w) h shut = absurd h
walk_next g before (x ∷ ns) OrderWalk.no_more h shut = absurd h
walk_next g before (x ∷ ns) (OrderWalk.met_before w) h shut = walk_next g before ns w h.1 shut
walk_next g before (x ∷ ns) (OrderWalk.met_first m inside w) h shut =
    whole (walk_next g before (reverse (inlined_named_by g x)) inside h.2 shut)
    (λ k. walk_next g (before ++ order_of_walk inside ++ x ∷ []) ns w h.3 k)
  where
    not_inside : AreNextNames g before (order_of_walk inside) → Among (order_of_walk inside) x → ⊥
    not_inside first i =
        let c = reached_inside g x x (walk_reaches g before (reverse (inlined_named_by g x)) inside h.2 x i) in
        no_return g before (order_of_walk inside) first shut x i c.0 c.1

    fresh : AreNextNames g before (order_of_walk inside) → Among before x ⊎ Among (order_of_walk inside) x → ⊥
    fresh first (inl i) = h.1 i
    fresh first (inr i) = not_inside first i

    is_next : AreNextNames g before (order_of_walk inside) → IsNextName g (before ++ order_of_walk inside) x
    is_next first = (
      λ i. fresh first (among_parts before (order_of_walk inside) x i),
      λ m i. walk_covers g before (reverse (inlined_named_by g x)) inside h.2 m (reverse_among (inlined_named_by g x) m i),
    )

    whole : AreNextNames g before (order_of_walk inside) →
        (AreShut g (before ++ order_of_walk inside ++ x ∷ []) →
        AreNextNames g (before ++ order_of_walk inside ++ x ∷ []) (order_of_walk w)) →
        AreNextNames g before (order_of_walk inside ++ m ∷ order_of_walk w)
    whole first rest =
        next-append g before (order_of_walk inside) (m ∷ order_of_walk w) first
        (subst (λ (y : Text). AreNextNames g (before ++ order_of_walk inside) (y ∷ order_of_walk w)) (sym h.0) (
          is_next first,
          rest (next-shut g (before ++ order_of_walk inside) (x ∷ []) (is_next first, tt)
              (next-shut g before (order_of_walk inside) first shut)),
        ))

order_next : (g : NonterminalEntries) (order : List Text) → IsInliningOrder g order → AreNextNames g [] order
order_next g order o = subst (AreNextNames g []) o.2 (walk_next g [] (inlined_names g) o.0 o.1 (λ n i m j. i))

-- an order has all that is inlined
pub order_all : (g : NonterminalEntries) (order : List Text) → IsInliningOrder g order → HasAllInlined g (inlined_names g) →
    HasAllInlined g order
order_all g order o all n = (
  λ e. subst (λ (l : List Text). Among l n) o.2 (walk_covers g [] (inlined_names g) o.0 o.1 n ((all n).0 e)),
  λ i. back (walk_reaches g [] (inlined_names g) o.0 o.1 n (subst (λ (l : List Text). Among l n) (sym o.2) i)),
)
  where
    last : (from : Text) (between : List Text) → IsInlineChain g from between n → is_inlined_name g n ≡ true
    last from [] c = named_inlined g from n c
    last from (k ∷ between) c = last k between c.1

    back : IsReached g (inlined_names g) n → is_inlined_name g n ≡ true
    back r = go r.reached
      where
        go : (r.from ≡ n) ⊎ ((between : List Text) × IsInlineChain g r.from between n) → is_inlined_name g n ≡ true
        go (inl e) = subst (λ (x : Text). is_inlined_name g x ≡ true) e ((all r.from).1 r.is_walked)
        go (inr c) = last r.from c.0 c.1

-- each once
pub order_once : (g : NonterminalEntries) (order : List Text) → IsInliningOrder g order → HasNameOnce order
order_once g order o front n back e =
    let h : AreNextNames g [] (front ++ n ∷ back) = subst (AreNextNames g []) e (order_next g order o) in
    let rest = next-split g [] front (n ∷ back) h in
    (rest.0.0, λ i. next-apart g (front ++ n ∷ []) back n rest.1 (among_right front (n ∷ []) n (inl refl)) i)

-- what one names stands before it
pub order_named_first : (g : NonterminalEntries) (order : List Text) → IsInliningOrder g order → HasNamedFirst g order
order_named_first g order o front n back m e i =
    let h : AreNextNames g [] (front ++ n ∷ back) = subst (AreNextNames g []) e (order_next g order o) in
    (next-split g [] front (n ∷ back) h).0.1 m i

-- so none is inlined into itself
pub order_none : (g : NonterminalEntries) (order : List Text) → IsInliningOrder g order → HasAllInlined g (inlined_names g) →
    (n : Text) → IsInlinedIntoItself g n → ⊥
order_none g order o all n r =
    no_return g [] order (order_next g order o) (λ n i m j. i) n ((order_all g order o all n).0 r.is_inlined) r.between r.chain

-- names that are walked behind the same ones have one walk
walk_unique : (g : NonterminalEntries) (before ns : List Text) (w v : OrderWalk) → IsOrderWalk g before ns w →
    IsOrderWalk g before ns v →
    order_of_walk w ≡ order_of_walk v
walk_unique g before [] OrderWalk.no_more OrderWalk.no_more h k = refl
walk_unique g before [] OrderWalk.no_more (OrderWalk.met_before v) h k = absurd k
walk_unique g before [] OrderWalk.no_more (OrderWalk.met_first l other v) h k = absurd k
walk_unique g before [] (OrderWalk.met_before w) v h k = absurd h
walk_unique g before [] (OrderWalk.met_first m inside w) v h k = absurd h
walk_unique g before (x ∷ ns) OrderWalk.no_more v h k = absurd h
walk_unique g before (x ∷ ns) (OrderWalk.met_before w) OrderWalk.no_more h k = absurd k
walk_unique g before (x ∷ ns) (OrderWalk.met_before w) (OrderWalk.met_before v) h k = walk_unique g before ns w v h.1 k.1
walk_unique g before (x ∷ ns) (OrderWalk.met_before w) (OrderWalk.met_first l other v) h k = absurd (k.1 h.0)
walk_unique g before (x ∷ ns) (OrderWalk.met_first m inside w) OrderWalk.no_more h k = absurd k
walk_unique g before (x ∷ ns) (OrderWalk.met_first m inside w) (OrderWalk.met_before v) h k = absurd (h.1 k.0)
walk_unique g before (x ∷ ns) (OrderWalk.met_first m inside w) (OrderWalk.met_first l other v) h k =
    let same : order_of_walk inside ≡ order_of_walk other =
    walk_unique g before (reverse (inlined_named_by g x)) inside other h.2 k.2 in
    let behind : order_of_walk w ≡ order_of_walk v =
    walk_unique g (before ++ order_of_walk inside ++ x ∷ []) ns w v h.3
    (subst (λ (o : List Text). IsOrderWalk g (before ++ o ++ x ∷ []) ns v) (sym same) k.3) in
    ap (λ o. o ++ m ∷ order_of_walk w) same ∙ ap (λ y. order_of_walk other ++ y ∷ order_of_walk w) (h.0 ∙ sym k.0)
    ∙ ap (λ o. order_of_walk other ++ l ∷ o) behind

-- a grammar has one order
pub order_unique : (g : NonterminalEntries) (order other : List Text) → IsInliningOrder g order → IsInliningOrder g other →
    order ≡ other
order_unique g order other o p = sym o.2 ∙ walk_unique g [] (inlined_names g) o.0 p.0 o.1 p.1 ∙ p.2
