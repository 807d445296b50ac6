-- Columns of tokens, and rows and tables of entries for them: what they hold, and when two columns meet. For sets of any kind.
use Rattle.std.specs.Prelude.{ℕ, List, [], ◌∷◌, length, Some, ◌≡◌, ◌⊎◌, ◌↔◌, ⊤, Contains, slice_get}

-- no two columns have a token in common
abbrev pub NeverMeet : {Token : Type 0} → (ℕ → Token → Type 0) → Type 0
NeverMeet {Token} Holds = (c d : ℕ) (x : Token) → Holds c x → Holds d x → c ≡ d

-- two columns have a token in common
pub record HaveMeeting {Token : Type 0} (Holds : ℕ → Token → Type 0) : Type 0 where
  pub one : ℕ
  pub other : ℕ
  pub token : Token
  pub apart : one ≡ other → ⊥
  pub in_one : Holds one token
  pub in_other : Holds other token

-- a row of entries, each of a column and with a set, has an entry of the column, be it empty
abbrev pub HasEntry : {Tokens : Type 0} → List (ℕ × Tokens) → ℕ → Type 0
HasEntry {Tokens} row c = (set : Tokens) × Contains row (c, set)

-- a table, with a row for each of some states, has one in the state
abbrev pub TableEnters : {Tokens : Type 0} → List (ℕ × List (ℕ × Tokens)) → ℕ → ℕ → Type 0
TableEnters {Tokens} rows n c = (row : List (ℕ × Tokens)) × Contains rows (n, row) × HasEntry row c

module _ {Tokens Token : Type 0} (Has : Tokens → Token → Type 0) where
  -- columns in order, a set for each, hold the token in the column
  abbrev pub InColumn : List Tokens → ℕ → Token → Type 0
  InColumn columns c x = (set : Tokens) × (slice_get columns c ≡ Some set) × Has set x

  -- another column than this has one of the set's tokens
  pub record MeetsAnother (columns : List Tokens) (c : ℕ) (set : Tokens) : Type 0 where
    pub column : ℕ
    pub token : Token
    pub another : column ≡ c → ⊥
    pub there : InColumn columns column token
    pub here : Has set token

  -- columns come to hold just what they held, and what is said besides; if no two met, none do now
  pub record GathersColumns (Comes : ℕ → Token → Type 0) (old new : List Tokens) : Type 0 where
    pub count : length new ≡ length old
    pub holds : (c : ℕ) (x : Token) → InColumn new c x ↔ (InColumn old c x ⊎ Comes c x)
    pub apart : NeverMeet (InColumn old) → NeverMeet (InColumn new)

  -- the entries of the column, in a row of entries, hold the token
  abbrev pub RowHolds : List (ℕ × Tokens) → ℕ → Token → Type 0
  RowHolds row c x = (set : Tokens) × Contains row (c, set) × Has set x

  -- beside these entries no other column has one of the set's tokens
  abbrev pub FitsBeside : List (ℕ × Tokens) → ℕ → Tokens → Type 0
  FitsBeside done c set = (d : ℕ) (x : Token) → RowHolds done d x → Has set x → d ≡ c

  -- entries that are put in one after the other fit beside all that are in before them
  abbrev pub AllFitBeside : List (ℕ × Tokens) → List (ℕ × Tokens) → Type 0
  AllFitBeside done [] = ⊤
  AllFitBeside done (entry ∷ entries) = FitsBeside done entry.0 entry.1 × AllFitBeside (entry ∷ done) entries

  -- the table holds the token in the column, in the state
  abbrev pub TableHolds : List (ℕ × List (ℕ × Tokens)) → ℕ → ℕ → Token → Type 0
  TableHolds rows n c x = (row : List (ℕ × Tokens)) × Contains rows (n, row) × RowHolds row c x
