-- A state's number is the rank of the soonest list of symbols that leads to it, where states are numbered as they are first seen: for the
-- order of conflicts.
use Rattle.std.proofs.Common.{◌≡◌, ◌∙◌, ◌<◌, ◌≤◌, ◌⊎◌, inl, inr, ⊎_elim, ℕ, zero, suc, List, [], ◌∷◌, ◌++◌, length}
use Rattle.std.proofs.Common.{Bool, true, false, ap, sym, refl, subst, arith, length-append, Contains, eqb}
use Rattle.std.proofs.lemmas.Bool.{cases_lt, eq-eqb, eqb-true, false≢true}
use Rattle.lalrpop_lr1_theory.specs.Automata.{Walk, goes, stands}
use Rattle.lalrpop_lr1_theory.specs.Productions.{Symbol}
use Rattle.lalrpop_lr1_theory.proofs.ListLemmas.{contains_here, contains_later, contains_split}
use Rattle.lalrpop_lr1_theory.proofs.NameLemmas.{no_element}
use Rattle.std.specs.declared.cmp.Ordering.TheVariants.{Less}
use Rattle.lalrpop_run.specs.ConflictOrders.{IsSooner, compare_symbols}
use Rattle.lalrpop_run.proofs.ConflictOrderLemmas.{equal_symbols, one_first, sooner_chain, sooner_last, sooner_more}
use Rattle.lalrpop_run.proofs.ConflictOrderLemmas.{symbols_total}

-- an edge of states: from which, by which symbol, and to which
abbrev pub ListedEdge : Type 0
ListedEdge = ℕ × Symbol × ℕ

abbrev listed_edge : ℕ → Symbol → ℕ → ListedEdge
listed_edge n x m = (n, x, m)

-- an edge by its source, then by its symbol
abbrev pub IsEarlier : ℕ → Symbol → ℕ → Symbol → Type 0
IsEarlier n x m y = (n < m) ⊎ ((n ≡ m) × (compare_symbols x y ≡ Less))

earlier_chain : (n m k : ℕ) (x y z : Symbol) → IsEarlier n x m y → IsEarlier m y k z → IsEarlier n x k z
earlier_chain n m k x y z (inl a) (inl b) = inl (omega (arith, a, b))
earlier_chain n m k x y z (inl a) (inr b) = inl (omega (arith, a, b.0))
earlier_chain n m k x y z (inr a) (inl b) = inl (omega (arith, a.0, b))
earlier_chain n m k x y z (inr a) (inr b) = inr (a.0 ∙ b.0, symbols_total.trans x y z a.1 b.1)

-- the first of the edges of a list that lead to a state
record FirstEdge (edges : List ListedEdge) (n : ℕ) : Type 0 where
  source : ℕ
  symbol : Symbol
  there : Contains edges (source, symbol, n)
  first : (k : ℕ) (y : Symbol) → Contains edges (k, y, n) → ((source ≡ k) × (symbol ≡ y)) ⊎ IsEarlier source symbol k y

abbrev NoEdgeTo : List ListedEdge → ℕ → Type 0
NoEdgeTo edges n = (k : ℕ) (y : Symbol) → Contains edges (k, y, n) → ⊥

edge_cases : (n m : ℕ) (x y : Symbol) → IsEarlier n x m y ⊎ (((n ≡ m) × (x ≡ y)) ⊎ IsEarlier m y n x)
edge_cases n m x y = go (cases_lt n m) (cases_lt m n) (one_first symbols_total equal_symbols x y)
  where
    go : (n < m) ⊎ (m ≤ n) → (m < n) ⊎ (n ≤ m) → (compare_symbols x y ≡ Less) ⊎ ((x ≡ y) ⊎ (compare_symbols y x ≡ Less))
        → IsEarlier n x m y ⊎ (((n ≡ m) × (x ≡ y)) ⊎ IsEarlier m y n x)
    go (inl a) b c = inl (inl a)
    go (inr a) (inl b) c = inr (inr (inl b))
    go (inr a) (inr b) (inl c) = inl (inr (omega (arith, a, b), c))
    go (inr a) (inr b) (inr (inl c)) = inr (inl (omega (arith, a, b), c))
    go (inr a) (inr b) (inr (inr c)) = inr (inr (inr (omega (arith, a, b), c)))

module _ (n j : ℕ) (x : Symbol) (edges : List ListedEdge) where
  -- one edge more, that leads elsewhere
  elsewhere : (m : ℕ) → (m ≡ n → ⊥) → NoEdgeTo edges n ⊎ FirstEdge edges n
      → NoEdgeTo ((j, x, m) ∷ edges) n ⊎ FirstEdge ((j, x, m) ∷ edges) n
  elsewhere m apart (inl none) =
      inl (λ k y c. ⊎_elim (λ e. apart (ap (λ (v : ListedEdge). v.2) e)) (none k y) (contains_split (j, x, m) (k, y, n) edges c))
  elsewhere m apart (inr f) = inr (record {
    source = f.source;
    symbol = f.symbol;
    there = contains_later (j, x, m) (f.source, f.symbol, n) edges f.there;
    first = λ k y c.
        ⊎_elim (λ e. absurd (apart (ap (λ (v : ListedEdge). v.2) e))) (f.first k y) (contains_split (j, x, m) (k, y, n) edges c);
  })

  -- one edge more that leads there, and is the first
  in_front : ((k : ℕ) (y : Symbol) → Contains edges (k, y, n) → ((j ≡ k) × (x ≡ y)) ⊎ IsEarlier j x k y)
      → FirstEdge ((j, x, n) ∷ edges) n
  in_front first = record {
    source = j;
    symbol = x;
    there = contains_here (j, x, n) edges;
    first = λ k y c.
        ⊎_elim (λ e. inl (ap (λ (v : ListedEdge). v.0) e, ap (λ (v : ListedEdge). v.1) e)) (first k y)
        (contains_split (j, x, n) (k, y, n) edges c);
  }

  -- one that is behind the first
  behind : (f : FirstEdge edges n) → IsEarlier f.source f.symbol j x → FirstEdge ((j, x, n) ∷ edges) n
  behind f earlier = record {
    source = f.source;
    symbol = f.symbol;
    there = contains_later (j, x, n) (f.source, f.symbol, n) edges f.there;
    first = λ k y c. ⊎_elim (λ e. inr (same k y e)) (f.first k y) (contains_split (j, x, n) (k, y, n) edges c);
  }
    where
      same : (k : ℕ) (y : Symbol) → listed_edge j x n ≡ listed_edge k y n → IsEarlier f.source f.symbol k y
      same k y e = subst (λ (v : ListedEdge). IsEarlier f.source f.symbol v.0 v.1) e earlier

  there_too : NoEdgeTo edges n ⊎ FirstEdge edges n → FirstEdge ((j, x, n) ∷ edges) n
  there_too (inl none) = in_front (λ k y c. absurd (none k y c))
  there_too (inr f) = go (edge_cases f.source j f.symbol x)
    where
      go : IsEarlier f.source f.symbol j x ⊎ (((f.source ≡ j) × (f.symbol ≡ x)) ⊎ IsEarlier j x f.source f.symbol)
          → FirstEdge ((j, x, n) ∷ edges) n
      go (inl e) = behind f e
      go (inr (inl e)) =
          in_front (λ k y c. ⊎_elim (λ h. inl (sym e.0 ∙ h.0, sym e.1 ∙ h.1)) (λ h. inr (moved k y h)) (f.first k y c))
        where
          moved : (k : ℕ) (y : Symbol) → IsEarlier f.source f.symbol k y → IsEarlier j x k y
          moved k y h = subst (λ m. IsEarlier m x k y) e.0 (subst (λ z. IsEarlier f.source z k y) e.1 h)
      go (inr (inr e)) =
          in_front (λ k y c. inr (⊎_elim (λ h. moved k y h) (λ h. earlier_chain j f.source k x f.symbol y e h) (f.first k y c)))
        where
          moved : (k : ℕ) (y : Symbol) → (f.source ≡ k) × (f.symbol ≡ y) → IsEarlier j x k y
          moved k y h = subst (λ m. IsEarlier j x m y) h.0 (subst (λ z. IsEarlier j x f.source z) h.1 e)

first_edge : (edges : List ListedEdge) (n : ℕ) → NoEdgeTo edges n ⊎ FirstEdge edges n
first_edge [] n = inl (λ k y c. no_element (k, y, n) c)
first_edge (e ∷ edges) n = go (eqb e.2 n) refl (first_edge edges n)
  where
    go : (b : Bool) → eqb e.2 n ≡ b → NoEdgeTo edges n ⊎ FirstEdge edges n → NoEdgeTo (e ∷ edges) n ⊎ FirstEdge (e ∷ edges) n
    go false h rest =
        elsewhere n e.0 e.1 edges e.2 (λ same. false≢true (sym h ∙ eq-eqb e.2 n same)) rest
    go true h rest =
        inr (subst (λ m. FirstEdge ((e.0, e.1, m) ∷ edges) n) (sym (eqb-true e.2 n h)) (there_too n e.0 e.1 edges rest))

-- a list of symbols that leads to a state, and leads there soonest
pub record SoonestWalk (Edge : ℕ → Symbol → ℕ → Type 0) (n : ℕ) : Type 0 where
  pub symbols : List Symbol
  pub walk : Walk Edge symbols n
  pub first : (h : List Symbol) → Walk Edge h n → (symbols ≡ h) ⊎ IsSooner symbols h

-- an edge to the state comes before this edge
pub record HasEarlierEdge (Edge : ℕ → Symbol → ℕ → Type 0) (j n : ℕ) (x : Symbol) : Type 0 where
  pub source : ℕ
  pub symbol : Symbol
  pub edge : Edge source symbol j
  pub earlier : IsEarlier source symbol n x

module _ (Edge : ℕ → Symbol → ℕ → Type 0)
    (seen : (j k n : ℕ) (x : Symbol) → 0 < j → j < k → Edge n x k → HasEarlierEdge Edge j n x) where
  -- to a state with a smaller number a list leads that is sooner
  pub sooner_walk : (h : List Symbol) (m : ℕ) → Walk Edge h m → (n : ℕ) → n < m → (g : List Symbol) × Walk Edge g n × IsSooner g h
  sooner_walk h m stands n l = absurd (omega (arith, l))
  sooner_walk h m (goes {g = f} {n = k} x m' w e) n l =
      go n l (cases_lt 0 n) (λ i l. sooner_walk f k w i l)
    where
      go : (n : ℕ) → n < m' → (0 < n) ⊎ (n ≤ 0) → ((i : ℕ) → i < k → (g : List Symbol) × Walk Edge g i × IsSooner g f)
          → (g : List Symbol) × Walk Edge g n × IsSooner g (f ++ x ∷ [])
      go n l (inr z) deeper =
          let start : 0 ≡ n = omega (arith, z) in
          ([], subst (Walk Edge []) start stands, inl (omega (arith, length-append f (x ∷ []))))
      go n l (inl p) deeper = by (seen n m' k x p l e)
        where
          by : HasEarlierEdge Edge n k x → (g : List Symbol) × Walk Edge g n × IsSooner g (f ++ x ∷ [])
          by it = from it.earlier
            where
              from : IsEarlier it.source it.symbol k x → (g : List Symbol) × Walk Edge g n × IsSooner g (f ++ x ∷ [])
              from (inl b) =
                  let r = deeper it.source b in
                  (r.0 ++ it.symbol ∷ [], goes it.symbol n r.1 it.edge, sooner_more r.0 f it.symbol x r.2)
              from (inr b) = (
                f ++ it.symbol ∷ [],
                goes it.symbol n (subst (Walk Edge f) (sym b.0) w) it.edge,
                sooner_last f it.symbol x b.1,
              )

  -- the last step of a walk
  last_step : (h : List Symbol) (n : ℕ) → Walk Edge h n
      → (n ≡ 0) ⊎ ((g : List Symbol) × (k : ℕ) × (x : Symbol) × (h ≡ g ++ x ∷ []) × Walk Edge g k × Edge k x n)
  last_step h n stands = inl refl
  last_step h n (goes {g = f} {n = k} x m w e) = inr (f, k, x, refl, w, e)

  module _ (edges : List ListedEdge) (listed : (n : ℕ) (x : Symbol) (m : ℕ) → Edge n x m → Contains edges (n, x, m))
      (edge : (n : ℕ) (x : Symbol) (m : ℕ) → Contains edges (n, x, m) → Edge n x m) where
    -- by the first edge to a state from the soonest list to its source
    by_first : (n : ℕ) → (n ≡ 0 → ⊥) → (f : FirstEdge edges n) → SoonestWalk Edge f.source → SoonestWalk Edge n
    by_first n apart f it = record {
      symbols = it.symbols ++ f.symbol ∷ [];
      walk = goes f.symbol n it.walk (edge f.source f.symbol n f.there);
      first = λ h v.
          ⊎_elim (λ z. absurd (apart z)) (λ r. over h r.0 r.1 r.2 r.3 r.4 (f.first r.1 r.2 (listed r.1 r.2 n r.5))) (last_step h n v);
    }
      where
        Goal : List Symbol → Type 0
        Goal h = (it.symbols ++ f.symbol ∷ [] ≡ h) ⊎ IsSooner (it.symbols ++ f.symbol ∷ []) h

        over : (h g : List Symbol) (k : ℕ) (x : Symbol) → h ≡ g ++ x ∷ [] → Walk Edge g k
            → ((f.source ≡ k) × (f.symbol ≡ x)) ⊎ IsEarlier f.source f.symbol k x → Goal h
        over h g k x same w (inl e) =
            subst Goal (sym same) (go (it.first g (subst (Walk Edge g) (sym e.0) w)))
          where
            go : (it.symbols ≡ g) ⊎ IsSooner it.symbols g → Goal (g ++ x ∷ [])
            go (inl a) = inl (ap (λ l. l ++ f.symbol ∷ []) a ∙ ap (λ z. g ++ z ∷ []) e.1)
            go (inr a) = inr (sooner_more it.symbols g f.symbol x a)
        over h g k x same w (inr (inl l)) = subst Goal (sym same) (go (sooner_walk g k w f.source l))
          where
            go : (d : List Symbol) × Walk Edge d f.source × IsSooner d g → Goal (g ++ x ∷ [])
            go r = inr (sooner_more it.symbols g f.symbol x (to (it.first r.0 r.1)))
              where
                to : (it.symbols ≡ r.0) ⊎ IsSooner it.symbols r.0 → IsSooner it.symbols g
                to (inl a) = subst (λ l. IsSooner l g) (sym a) r.2
                to (inr a) = sooner_chain it.symbols r.0 g a r.2
        over h g k x same w (inr (inr e)) =
            subst Goal (sym same) (go (it.first g (subst (Walk Edge g) (sym e.0) w)))
          where
            go : (it.symbols ≡ g) ⊎ IsSooner it.symbols g → Goal (g ++ x ∷ [])
            go (inl a) = inr (subst (λ l. IsSooner (l ++ f.symbol ∷ []) (g ++ x ∷ [])) (sym a) (sooner_last g f.symbol x e.1))
            go (inr a) = inr (sooner_more it.symbols g f.symbol x a)

    -- a state to which symbols lead has a soonest list of symbols
    pub soonest_walk : (bound : ℕ) (g : List Symbol) (n : ℕ) → length g ≤ bound → Walk Edge g n → SoonestWalk Edge n
    soonest_walk bound g zero l w = record { symbols = []; walk = stands; first = λ h v. none_sooner h }
      where
        none_sooner : (h : List Symbol) → ([] ≡ h) ⊎ IsSooner [] h
        none_sooner [] = inl refl
        none_sooner (x ∷ h) = inr (inl (omega arith))
    soonest_walk zero g (suc n) l w = ⊎_elim (λ z. absurd (omega (arith, z))) (λ r. absurd (too_short r.0 r.2 r.3)) (last_step g (suc n) w)
      where
        too_short : (f : List Symbol) (x : Symbol) → g ≡ f ++ x ∷ [] → ⊥
        too_short f x e = omega (arith, l, ap length e, length-append f (x ∷ []))
    soonest_walk (suc bound) g (suc n) l w =
        ⊎_elim (λ z. absurd (omega (arith, z)))
        (λ r. from (λ h m s v. soonest_walk bound h m s v) r.0 r.1 r.2 r.3 r.4 r.5) (last_step g (suc n) w)
      where
        from : ((h : List Symbol) (m : ℕ) → length h ≤ bound → Walk Edge h m → SoonestWalk Edge m) → (f : List Symbol) (k : ℕ) (x : Symbol)
            → g ≡ f ++ x ∷ [] → Walk Edge f k → Edge k x (suc n) → SoonestWalk Edge (suc n)
        from deeper f k x e v d = go (first_edge edges (suc n))
          where
            short : length f ≤ bound
            short = omega (arith, l, ap length e, length-append f (x ∷ []))

            go : NoEdgeTo edges (suc n) ⊎ FirstEdge edges (suc n) → SoonestWalk Edge (suc n)
            go (inl none) = absurd (none k x (listed k x (suc n) d))
            go (inr it) = by_first (suc n) (λ z. omega (arith, z)) it (to (it.first k x (listed k x (suc n) d)))
              where
                to : ((it.source ≡ k) × (it.symbol ≡ x)) ⊎ IsEarlier it.source it.symbol k x → SoonestWalk Edge it.source
                to (inl h) = deeper f it.source short (subst (Walk Edge f) (sym h.0) v)
                to (inr (inl h)) = sooner (sooner_walk f k v it.source h)
                  where
                    sooner : (d : List Symbol) × Walk Edge d it.source × IsSooner d f → SoonestWalk Edge it.source
                    sooner r = deeper r.0 it.source (long r.2) r.1
                      where
                        long : IsSooner r.0 f → length r.0 ≤ bound
                        long (inl a) = omega (arith, a, short)
                        long (inr a) = omega (arith, a.0, short)
                to (inr (inr h)) = deeper f it.source short (subst (Walk Edge f) (sym h.0) v)

  -- a smaller number has the sooner list
  pub sooner_numbers : (n m : ℕ) (a : SoonestWalk Edge n) (b : SoonestWalk Edge m) → n < m → IsSooner a.symbols b.symbols
  sooner_numbers n m a b l = go (sooner_walk b.symbols m b.walk n l)
    where
      go : (g : List Symbol) × Walk Edge g n × IsSooner g b.symbols → IsSooner a.symbols b.symbols
      go r = to (a.first r.0 r.1)
        where
          to : (a.symbols ≡ r.0) ⊎ IsSooner a.symbols r.0 → IsSooner a.symbols b.symbols
          to (inl e) = subst (λ l. IsSooner l b.symbols) (sym e) r.2
          to (inr e) = sooner_chain a.symbols r.0 b.symbols e r.2
