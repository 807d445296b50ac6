-- Computed examples of spread states: a chain of three, its second state copied with an edge that it had earlier, and a near miss.
use Rattle.std.proofs.Common.{◌≡◌, ◌⊎◌, ℕ, [], ◌∷◌, refl, inl, inr, arith}
use Rattle.lalrpop_lr1_theory.specs.Productions.{Production, Symbol, terminal}
use Rattle.lalrpop_lr1_theory.proofs.ExampleLemmas.{name, production, quoted}
use Rattle.lalrpop_lane_theory.specs.SpreadStates.{AreRedirected, IsCopied, IsSpread, LeadAsOriginal}
use Rattle.lalrpop_lane_theory.proofs.SpreadLemmas.{copied_spread, redirected_spread, with_copy}

-- `S = "x" "x"`, and the three states along it
abbrev both : Production
both = production 0 (name 83) (terminal (quoted 120) ∷ terminal (quoted 120) ∷ [])

abbrev x_symbol : Symbol
x_symbol = terminal (quoted 120)

data StandsIn : ℕ → Production → ℕ → Type 0 where
  unread : StandsIn 0 both 0
  half_read : StandsIn 1 both 1
  all_read : StandsIn 2 both 2

data LeadsOn : ℕ → Symbol → ℕ → Type 0 where
  to_half : LeadsOn 0 x_symbol 1
  to_all : LeadsOn 1 x_symbol 2

-- they are spread over themselves
itself : IsSpread StandsIn LeadsOn StandsIn LeadsOn (λ n. n)
itself =
    record {
      first_state = refl;
      items = λ n p i. (λ k. k, λ k. k);
      edges = λ n. record { down = λ x m e. e; on = λ x m e. (m, e); one = λ x m k e f. one_edge n n x m k e f refl };
    }
  where
    one_edge : (n o : ℕ) (x : Symbol) (m k : ℕ) → LeadsOn n x m → LeadsOn o x k → n ≡ o → m ≡ k
    one_edge n o x m k to_half to_half e = refl
    one_edge n o x m k to_all to_all e = refl
    one_edge n o x m k to_half to_all e = absurd (omega (arith, e))
    one_edge n o x m k to_all to_half e = absurd (omega (arith, e))

-- State 2 is copied, as state 3, which has no edges.
data WithThird : ℕ → Production → ℕ → Type 0 where
  old_item : (n : ℕ) (p : Production) (i : ℕ) → StandsIn n p i → WithThird n p i
  all_read_copied : WithThird 3 both 2

below_three : (n : ℕ) (p : Production) (i : ℕ) → StandsIn n p i → n ≡ 3 → ⊥
below_three n p i unread e = omega (arith, e)
below_three n p i half_read e = omega (arith, e)
below_three n p i all_read e = omega (arith, e)

edge_from : (n : ℕ) (x : Symbol) (m : ℕ) → LeadsOn n x m → (n ≡ 2 → ⊥) × (n ≡ 3 → ⊥) × (m ≡ 3 → ⊥)
edge_from n x m to_half = (λ e. omega (arith, e), λ e. omega (arith, e), λ e. omega (arith, e))
edge_from n x m to_all = (λ e. omega (arith, e), λ e. omega (arith, e), λ e. omega (arith, e))

third_copied : IsCopied StandsIn LeadsOn WithThird LeadsOn (LeadsOn 2) 2 3
third_copied =
    record {
      behind_first = λ e. omega (arith, e);
      no_edge = λ n x e. (edge_from n x 3 e).2 refl;
      no_edge_earlier = λ x e. (edge_from 2 x 3 e).0 refl;
      items = λ n p i apart. (λ k. old n p i k apart, old_item n p i);
      edges = λ n x m apart. (λ e. e, λ e. e);
      copied_items = λ p i. (λ k. of_copy 3 p i k refl, λ k. to_copy 2 p i k refl);
      copied_edges = λ x m. (λ e. absurd ((edge_from 3 x m e).1 refl), λ e. absurd ((edge_from 2 x m e).0 refl));
    }
  where
    old : (n : ℕ) (p : Production) (i : ℕ) → WithThird n p i → (n ≡ 3 → ⊥) → StandsIn n p i
    old n p i (old_item m q j k) apart = k
    old n p i all_read_copied apart = absurd (apart refl)

    of_copy : (n : ℕ) (p : Production) (i : ℕ) → WithThird n p i → n ≡ 3 → StandsIn 2 p i
    of_copy n p i (old_item m q j k) e = absurd (below_three m q j k e)
    of_copy n p i all_read_copied e = all_read

    to_copy : (n : ℕ) (p : Production) (i : ℕ) → StandsIn n p i → n ≡ 2 → WithThird 3 p i
    to_copy n p i unread e = absurd (omega (arith, e))
    to_copy n p i half_read e = absurd (omega (arith, e))
    to_copy n p i all_read e = all_read_copied

-- the origins are the states themselves, and state 2 of the copy
abbrev third_origin : ℕ → ℕ
third_origin = with_copy StandsIn LeadsOn StandsIn LeadsOn (λ n. n) itself 2 3

third_spread : IsSpread StandsIn LeadsOn WithThird LeadsOn third_origin
third_spread =
    copied_spread StandsIn LeadsOn StandsIn LeadsOn (λ n. n) itself WithThird LeadsOn (LeadsOn 2) 2 3 (itself.edges 2)
    third_copied

-- The edge of state 1 leads to the copy.
data Redirected : ℕ → Symbol → ℕ → Type 0 where
  to_half_still : Redirected 0 x_symbol 1
  to_third : Redirected 1 x_symbol 3

redirected : AreRedirected LeadsOn Redirected 2 3
redirected = record { each = each; stays = stays; one = λ n x m k e f. one n n x m k e f refl }
  where
    each : (n : ℕ) (x : Symbol) (m : ℕ) → Redirected n x m → LeadsOn n x m ⊎ (LeadsOn n x 2 × (m ≡ 3))
    each n x m to_half_still = inl to_half
    each n x m to_third = inr (to_all, refl)

    stays : (n : ℕ) (x : Symbol) (k : ℕ) → LeadsOn n x k → (m : ℕ) × Redirected n x m
    stays n x k to_half = (1, to_half_still)
    stays n x k to_all = (3, to_third)

    one : (n o : ℕ) (x : Symbol) (m k : ℕ) → Redirected n x m → Redirected o x k → n ≡ o → m ≡ k
    one n o x m k to_half_still to_half_still e = refl
    one n o x m k to_third to_third e = refl
    one n o x m k to_half_still to_third e = absurd (omega (arith, e))
    one n o x m k to_third to_half_still e = absurd (omega (arith, e))

redirected_is_spread : IsSpread StandsIn LeadsOn WithThird Redirected third_origin
redirected_is_spread =
    redirected_spread StandsIn LeadsOn WithThird LeadsOn third_origin third_spread WithThird Redirected 2 3 redirected
    (λ n p i. (λ k. k, λ k. k)) refl

-- State 1 now leads to the copy; what it led to earlier, state 2, leads on as the original's, too, so a copy of it may have that edge.
earlier_leads : LeadAsOriginal LeadsOn third_origin (third_origin 1) (LeadsOn 1)
earlier_leads = third_spread.edges 1

-- Near miss: an edge is redirected to a state that is no copy of where it led. Whatever the origins, the states are not spread then.
data Astray : ℕ → Symbol → ℕ → Type 0 where
  past_half : Astray 0 x_symbol 2
  to_all_still : Astray 1 x_symbol 2

item_place : (n : ℕ) (p : Production) (i : ℕ) → StandsIn n p i → n ≡ i
item_place n p i unread = refl
item_place n p i half_read = refl
item_place n p i all_read = refl

target_of_first : (n : ℕ) (x : Symbol) (m : ℕ) → LeadsOn n x m → n ≡ 0 → m ≡ 1
target_of_first n x m to_half e = refl
target_of_first n x m to_all e = absurd (omega (arith, e))

not_astray : (origin : ℕ → ℕ) → IsSpread StandsIn LeadsOn StandsIn Astray origin → ⊥
not_astray origin spread =
    let lead = target_of_first (origin 0) x_symbol (origin 2) ((spread.edges 0).down x_symbol 2 past_half) spread.first_state in
    let place = item_place (origin 2) both 2 ((spread.items 2 both 2).0 all_read) in
    omega (arith, lead, place)
