-- What `Edges` and a `State` end as, where one of their parts is lent to be changed.
use Rattle.std.specs.Borrow.{Lends, MutBor, Fml, RattleType, usize}
use Rattle.std.specs.contracts.alloc.Global as global
use Rattle.std.specs.contracts.vec.Vec as vec
use Rattle.std.specs.contracts.impls.GlobalAllocator.TheImpl.{ghosts}
use Rattle.lalrpop_lexer_nfa.specs.contracts.edge.Edge as edge
use Rattle.lalrpop_lexer_nfa.specs.contracts.state.Edges as edges
use Rattle.lalrpop_lexer_nfa.specs.contracts.state.State as state

-- lists of edges with labels of a type
abbrev pub list_row : RattleType → RattleType
list_row L = vec.the_row (edge.the_row L) global.the_row ghosts

-- the edges end with the last list behind r put in
abbrev pub LendsList : (L : RattleType) → MutBor edges.the_row.Denot → MutBor (list_row L).Denot
    → ((list_row L).Denot → edges.the_row.Denot) → Fml
LendsList L lender r put = Lends edges.the_row (list_row L) lender r put

-- the state ends with the last number behind r put in
abbrev pub LendsPlace : MutBor state.the_row.Denot → MutBor usize.Denot → (usize.Denot → state.the_row.Denot) → Fml
LendsPlace lender r put = Lends state.the_row usize lender r put
