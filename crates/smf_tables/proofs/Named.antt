-- The meaning of a statement on one table that is found by its name, with any tables before and after it. The text is
-- read once; then each step of its resolution is followed, with the table's place in place of a search.
use Rattle.std.proofs.Common.{◌≡◌, ◌<◌, ◌+◌, ◌-◌, ◌^◌, ◌==◌, [], ◌∷◌, ◌++◌, ℕ, suc, negsuc, List, length, codes, cond, map, find, nat_lt, nat_le, Option, Some, None, Ok, Bool, true, false, refl, sym, ap, ap₂, subst, ◌∙◌, arith, append-nil, append_assoc}
use Rattle.std.specs.Prelude.{unwrap_or}
use Rattle.std.proofs.lemmas.Bool.{lt-ltb}
use Rattle.std.specs.List.{slice_get}
use Rattle.sqlite_value.specs.declared.keys.Collation.TheVariants.{Binary}
use Rattle.sqlite_value.specs.declared.keys.Key.{Key}
use Rattle.sqlite_value.specs.declared.value.Value.TheVariants.{Int}
use Rattle.sqlite_sql.specs.Term.{Term, lit, col, op2}
use Rattle.sqlite_sql.specs.declared.ops.BinaryOp.TheVariants.{Compare}
use Rattle.sqlite_sql.specs.declared.ops.CompareOp.TheVariants.{Eq}
use Rattle.sqlite_ast.specs.declared.Binary.TheVariants as binary
use Rattle.sqlite_ast.specs.declared.Core.{Core, out-Core}
use Rattle.sqlite_ast.specs.declared.Expr.{Expr, out-Expr}
use Rattle.sqlite_ast.specs.declared.Expr.TheOpen.{Expr-F, Shown-F}
use Rattle.sqlite_ast.specs.declared.Origin.TheVariants as origin
use Rattle.sqlite_ast.specs.declared.Shown.{Shown, out-Shown}
use Rattle.sqlite_ast.specs.declared.Source.{Source, out-Source}
use Rattle.sqlite_schema.specs.declared.schema.Column.{Column}
use Rattle.sqlite_schema.specs.Names.{table_named, column_named, place_of}
use Rattle.sqlite_draft.specs.declared.join.Step.TheVariants.{Inner}
use Rattle.sqlite_resolve.specs.declared.scope.Bound.{Bound}
use Rattle.sqlite_resolve.specs.declared.scope.Found.{Found}
use Rattle.sqlite_resolve.specs.declared.scope.Found.TheVariants as found
use Rattle.sqlite_resolve.specs.declared.scope.Level.{Level}
use Rattle.sqlite_resolve.specs.declared.scope.Output.{Output}
use Rattle.sqlite_resolve.specs.declared.state.Carried.{Carried}
use Rattle.sqlite_resolve.specs.declared.state.State.{State}
use Rattle.sqlite_resolve.specs.Body as body
use Rattle.sqlite_resolve.specs.declared.compare.Affinity.{Affinity}
use Rattle.sqlite_resolve.specs.declared.compare.Affinity.TheVariants as affinities
use Rattle.sqlite_resolve.specs.Compare.{compared, converted, affinity_of, of_column, of_declared}
use Rattle.sqlite_resolve.specs.Expr.{lower, lower_to, node, opened, passes, operation, both, combine, wanted_truth, tests_truth, tests_alias}
use Rattle.sqlite_resolve.specs.Lowering.{begin, finish, chosen, alone, nothing, spend, take_slot}
use Rattle.sqlite_resolve.specs.Scope.{Name, Context, column, column_at, column_in, declared, find as found_as, hit, in_level, is_among, is_rowid, only, rowid_in, term_of}
use Rattle.sqlite.specs.Schema.{Schema}
use Rattle.sqlite.specs.Table.{Table}
use Rattle.sqlite_ast.specs.declared.Select.{Select, out-Select}
use Rattle.sqlite_ast.specs.declared.Sort.{Sort, out-Sort}
use Rattle.sqlite_draft.specs.declared.query.Draft.{Draft}
use Rattle.sqlite_draft.specs.Join.{chain}
use Rattle.sqlite_resolve.specs.Lowering.{fresh, max_budget}
use Rattle.sqlite_resolve.specs.Order.{alias_in, collation_of, is_numeral, key, keys, peeled, placed, sort, sorts, written_on}
use Rattle.sqlite_resolve.specs.Program as program
use Rattle.sqlite_resolve.specs.Select.{assembled, constant_or, having, named as named_query, outermost, paging, parts, ungrouped}
use Rattle.sqlite_resolve.specs.Terms.{number}
use Rattle.sqlite_ast.specs.declared.Rows.{Rows}
use Rattle.sqlite_schema.specs.declared.program.Program.{Program}
use Rattle.sqlite_schema.specs.declared.command.Command.TheVariants.{Insert, Delete, Select as Answer}
use Rattle.sqlite_schema.specs.declared.command.Source.TheVariants as source
use Rattle.sqlite_ast.specs.declared.Conflict.TheVariants as conflict
use Rattle.sqlite_ast.specs.declared.Statement.TheVariants as written
use Rattle.sqlite_syntax.specs.declared.statement.Parsed.{Parsed}
use Rattle.sqlite_resolve.specs.declared.compiled.Compiled.{Compiled}
use Rattle.sqlite_resolve.specs.Compile.{command, compiled, first, meaning, planned, read, returning, shows, small, timed, target, delete, insert, insert_or_abort, new_rows}
use Rattle.sqlite.specs.Listing.{understood, reads_listing}
use Rattle.sqlite.proofs.Callers.{IsPlain, command_of}
use Rattle.sqlite_schema.specs.declared.command.Command.{Command}
use Rattle.sqlite_sql.specs.declared.ops.BinaryOp.TheVariants.{And}
use Rattle.sqlite_resolve.specs.Scope.{alias_of}
use Rattle.sqlite_resolve.specs.Write.{deleted, picked, simple}
use Rattle.std.specs.Prelude.{◌&&◌}
use Rattle.std.specs.List.{position_from}
use Rattle.sqlite_schema.specs.Names.{same_name}
use Rattle.sqlite_draft.specs.declared.join.Step.{Step}
use Rattle.smf_tables.proofs.Answers.{by_rowid as rowid_order}
use Rattle.smf_tables.specs.Rows.{equal}

-- the state while the columns are read
abbrev pub so_far : ℕ → Carried → State
so_far budget last = record { next = 2; steps = []; aggregates = []; budget = budget; written = None; last = last }

under : (n : ℕ) → 1 < n → nat_lt 1 n ≡ true
under n less = lt-ltb 1 n less

-- a table that is found by its name
module _ (s : Schema) (place : ℕ) (t : Table) (named : table_named s t.name ≡ Some place) (there : slice_get s.tables place ≡ Some t) where
  abbrev pub bound : Bound
  bound = record { name = t.name; table = place; slot = 1; shared = [] }

  abbrev pub level_of : List Output → Level
  level_of outs = record { tables = bound ∷ []; shown = outs }

  abbrev pub within : List Output → Bool → Context
  within outs sums = record { schema = s; levels = level_of outs ∷ []; may_aggregate = sums; may_alias = true }

  -- a name that stands for a column of the row at this place
  pub record Reads (c : Name) (at : ℕ) (carried : Carried) (heading : Name) : Type 0 where
    pub what : Found
    pub finds : (outs : List Output) (sums : Bool) → found_as (within outs sums) None c ≡ Ok what
    pub gives : (outs : List Output) (sums : Bool) (st : State) → term_of (within outs sums) what st
        ≡ Ok (col 1 at, record st { last = carried })
    pub heads : (text : Name) → body.found_name s text (Ok what) ≡ heading

  module _ (c : Name) (j : ℕ) (it : Column) (is : column_named t c ≡ Some j) (has : slice_get t.columns j ≡ Some it) where
    column_in_is : column_in s c bound ≡ Some (found.Column 1 place j)
    unfolding column_in
    column_in_is = rw (there, is)

    column_at_is : column_at s 1 place j ≡ Ok (col 1 (place_of t j), declared t j it)
    unfolding column_at
    column_at_is = rw (there, has)

    heading_at : body.declared s place (Some j) ≡ Some it.name
    unfolding body.declared
    heading_at = rw (there, has)

    finds_column : (outs : List Output) (sums : Bool) → found_as (within outs sums) None c
        ≡ Ok (found.Column 1 place j)
    unfolding found_as in_level only hit is_among
    finds_column outs sums = rw (column_in_is)

    gives_column : (outs : List Output) (sums : Bool) (st : State)
        → term_of (within outs sums) (found.Column 1 place j) st
        ≡ Ok (col 1 (place_of t j), record st { last = declared t j it })
    unfolding term_of
    gives_column outs sums st = rw (column_at_is)

    pub by_column : Reads c (place_of t j) (declared t j it) it.name
    by_column = record {
      what = found.Column 1 place j;
      finds = finds_column;
      gives = gives_column;
      heads = λ text. ap (λ o. unwrap_or o text) heading_at;
    }

  module _ (none : column_named t (codes "rowid") ≡ None) (low : nat_lt t.tree (2 ^ 31) ≡ true) (key : t.key ≡ None) where
    no_column_in : column_in s (codes "rowid") bound ≡ None
    unfolding column_in
    no_column_in = rw (there, none)

    rowid_in_is : rowid_in s bound ≡ Some (found.Rowid 1 place)
    unfolding rowid_in
    rowid_in_is = rw (there, low)

    rowid_is : is_rowid (codes "rowid") ≡ true
    unfolding is_rowid Rattle.sqlite_schema.specs.Names.same_name
    rowid_is = refl

    finds_rowid : (outs : List Output) (sums : Bool) → found_as (within outs sums) None (codes "rowid")
        ≡ Ok (found.Rowid 1 place)
    unfolding found_as in_level only hit is_among
    finds_rowid outs sums = rw (no_column_in, rowid_is, rowid_in_is)

    gives_rowid : (outs : List Output) (sums : Bool) (st : State)
        → term_of (within outs sums) (found.Rowid 1 place) st ≡ Ok (col 1 0, record st { last = nothing })
    unfolding term_of
    gives_rowid outs sums st = refl

    no_heading : (text : Name) → body.found_name s text (Ok (found.Rowid 1 place)) ≡ codes "rowid"
    unfolding body.declared
    no_heading text = rw (there, key)

    pub by_rowid : Reads (codes "rowid") 0 nothing (codes "rowid")
    by_rowid = record { what = found.Rowid 1 place; finds = finds_rowid; gives = gives_rowid; heads = no_heading }

  -- ---- terms

  module _ (c : Name) (at : ℕ) (carried : Carried) (heading : Name) (r : Reads c at carried heading) (outs : List Output) (sums : Bool) where
    column_is : (st : State) → column (within outs sums) None c st ≡ Ok (col 1 at, record st { last = carried })
    unfolding column
    column_is st = rw (r.finds outs sums, r.gives outs sums st)

    module _ (e : Expr) (shape : out-Expr e ≡ Expr-F.Column None c) where
      pub heading_is : (text : Name) → body.heading (within outs sums) e text ≡ heading
      unfolding body.heading
      heading_is text = rw (shape, r.finds outs sums, r.heads text)

      pub term_is : (depth budget : ℕ) (last : Carried) → 1 < budget
          → lower_to (suc depth) (within outs sums) e (so_far budget last)
          ≡ Ok (col 1 at, so_far (budget - 1) carried)
      unfolding lower_to node opened passes begin finish spend
      term_is depth budget last enough = rw (under budget enough, shape, column_is)

  pub parameter_is : (outs : List Output) (sums : Bool) (e : Expr) (n : ℕ) → out-Expr e ≡ Expr-F.Parameter n
      → (depth budget : ℕ) (last : Carried) → 1 < budget
      → lower_to (suc depth) (within outs sums) e (so_far budget last) ≡ Ok (col 0 (n - 1), so_far (budget - 1) nothing)
  unfolding lower_to node opened passes begin finish spend
  parameter_is outs sums e n shape depth budget last enough = rw (under budget enough, shape)

  -- a comparison of a column with a parameter leaves both as they are
  pub record Compares (c : Name) (at : ℕ) : Type 0 where
    pub carried : Carried
    pub heading : Name
    pub kind : Affinity
    pub reads : Reads c at carried heading
    pub affinity : (outs : List Output) (sums : Bool) → affinity_of (within outs sums) (col 1 at) ≡ kind
    pub left : converted kind affinities.None (col 1 at) ≡ col 1 at
    pub right : (n : ℕ) → converted affinities.None kind (col 0 n) ≡ col 0 n
    pub how : chosen carried nothing ≡ Binary

  pub affinity_is : (outs : List Output) (sums : Bool) (k : ℕ) (it : Column) → slice_get t.columns k ≡ Some it
      → affinity_of (within outs sums) (col 1 (suc k)) ≡ of_declared it
  unfolding affinity_of of_column
  affinity_is outs sums k it has = rw (there, has)

  pub compares_column : (c : Name) (j : ℕ) (it : Column) (kind : Affinity) → column_named t c ≡ Some j
      → slice_get t.columns j ≡ Some it → place_of t j ≡ suc j → of_declared it ≡ kind
      → converted kind affinities.None (col 1 (suc j)) ≡ col 1 (suc j)
      → ((n : ℕ) → converted affinities.None kind (col 0 n) ≡ col 0 n) → chosen (declared t j it) nothing ≡ Binary
      → Compares c (suc j)
  compares_column c j it kind is has at of left right how = record {
    carried = declared t j it;
    heading = it.name;
    kind = kind;
    reads = subst (λ n. Reads c n (declared t j it) it.name) at (by_column c j it is has);
    affinity = λ outs sums. affinity_is outs sums j it has ∙ of;
    left = left;
    right = right;
    how = how;
  }

  no_affinity : (outs : List Output) (sums : Bool) (n : ℕ) → affinity_of (within outs sums) (col 0 n) ≡ affinities.None
  unfolding affinity_of of_column
  no_affinity outs sums n = elim (n == 0) as (λ b. cond b affinities.None affinities.None ≡ affinities.None) [
    | true ↦ refl
    | false ↦ refl
  ]

  module _ (c : Name) (at : ℕ) (x : Compares c at) (outs : List Output) (sums : Bool) where
    compared_is : (n : ℕ) → compared (within outs sums) (Compare Eq (chosen x.carried nothing)) (col 1 at) (col 0 n)
        ≡ equal at n
    unfolding compared
    compared_is n = rw (x.affinity outs sums, no_affinity outs sums n, x.left, x.right n, x.how)

    module _ (e a b : Expr) (n : ℕ) (shape : out-Expr e ≡ Expr-F.Binary binary.Eq a b) (first : out-Expr a ≡ Expr-F.Column None c) (second : out-Expr b ≡ Expr-F.Parameter n) where
      pub equal_is : (depth budget : ℕ) (last : Carried) → 3 < budget
          → lower_to (suc (suc depth)) (within outs sums) e (so_far budget last)
          ≡ Ok (equal at (n - 1), so_far (budget - 1 - 1 - 1) nothing)
      unfolding lower_to node opened passes begin finish spend operation wanted_truth both tests_truth tests_alias
          combine
      equal_is depth budget last enough = rw (
        under budget (omega (arith, enough)),
        shape,
        term_is c at x.carried x.heading x.reads outs sums a first depth (budget - 1) nothing (omega (arith, enough)),
        parameter_is outs sums b n second depth (budget - 1 - 1) x.carried (omega (arith, enough)),
        compared_is (n - 1),
      )

  -- ---- the columns of a result

  -- a column alone is shown
  pub record Asked : Type 0 where
    pub one : Shown
    pub e : Expr
    pub text : Name
    pub c : Name
    pub at : ℕ
    pub carried : Carried
    pub heading : Name
    pub shows : out-Shown one ≡ Shown-F.One e None text
    pub shape : out-Expr e ≡ Expr-F.Column None c
    pub reads : Reads c at carried heading

  abbrev pub output : Asked → Output
  output a = record { name = a.heading; is_alias = false; is_column = true; term = col 1 a.at; carried = a.carried }

  abbrev pub last_of : Carried → List Asked → Carried
  last_of last [] = last
  last_of last (a ∷ more) = last_of a.carried more

  output_is : (a : Asked) (done : List Output) (budget : ℕ) (last : Carried) → 1 < budget
      → body.shown lower (within [] true) (bound ∷ []) done a.one (so_far budget last)
      ≡ Ok (done ++ output a ∷ [], so_far (budget - 1) a.carried)
  unfolding body.shown body.is_column
  output_is a done budget last enough = rw (
    a.shows,
    term_is a.c a.at a.carried a.heading a.reads [] true a.e a.shape 699 budget last enough,
    heading_is a.c a.at a.carried a.heading a.reads [] true a.e a.shape a.text,
    a.shape,
  )

  outputs_from_is : (all : List Asked) (done : List Output) (budget : ℕ) (last : Carried) → length all < budget
      → body.outputs_from lower (within [] true) (bound ∷ []) done (map (λ (a : Asked). a.one) all) (so_far budget last)
      ≡ Ok (done ++ map output all, so_far (budget - length all) (last_of last all))
  outputs_from_is [] done budget last enough = let none : budget - 0 ≡ budget = omega arith in
      rw (append-nil done, none) refl
  outputs_from_is (a ∷ all) done budget last enough =
      let less : budget - 1 - length all ≡ budget - suc (length all) = omega arith in
      rw (output_is a done budget last (omega (arith, enough)))
      (outputs_from_is all (done ++ output a ∷ []) (budget - 1) a.carried (omega (arith, enough))
      ∙ ap₂ (λ (o : List Output) n. Ok (o, so_far n (last_of a.carried all)))
      (append_assoc done (output a ∷ []) (map output all)) less)

  -- ---- a query over the table

  -- the text asks for these columns of the table, in the order of one, or in none
  pub record IsCore (core : Core) (all : List Asked) (test : Option Expr) : Type 0 where
    pub src : Source
    pub from : (out-Core core).from ≡ src ∷ []
    pub shown : (out-Core core).shown ≡ map (λ (a : Asked). a.one) all
    pub filter : (out-Core core).filter ≡ test
    pub group : (out-Core core).group ≡ []
    pub having : (out-Core core).having ≡ None
    pub distinct : (out-Core core).distinct ≡ false
    pub origin_is : (out-Source src).origin ≡ origin.Table t.name
    pub alias : (out-Source src).alias ≡ None
    pub using : (out-Source src).using ≡ []
    pub left : (out-Source src).is_left ≡ false
    pub on : (out-Source src).on ≡ None

  table_is : (slot : ℕ) → body.table_in s slot (origin.Table t.name) ≡ Ok (t.name, place)
  unfolding body.table_in
  table_is slot = rw named

  bounds_are : (src : Source) (last : Carried) (budget : ℕ) → (out-Source src).origin ≡ origin.Table t.name
      → (out-Source src).alias ≡ None → (out-Source src).using ≡ []
      → body.bounds s (src ∷ [])
      (record { next = 1; steps = []; aggregates = []; budget = budget; written = None; last = last })
      ≡ Ok (bound ∷ [], so_far budget last)
  unfolding body.bounds body.bound take_slot
  bounds_are src last budget from bare used = rw (from, bare, used, table_is)

  module _ (core : Core) (all : List Asked) (test : Option Expr) (is : IsCore core all test) (few : length all < 100000) where
    abbrev pub outs : List Output
    outs = map output all

    abbrev pub here : State
    here = so_far (100000 - length all) (last_of nothing all)

    outputs_are : body.result lower (outermost s) (level_of []) core (so_far 100000 nothing) ≡ Ok (outs, here)
    unfolding body.result body.outputs
    outputs_are = rw (is.shown) (outputs_from_is all [] 100000 nothing few)

    joins_are : (st : State) → body.joins lower (within outs false) (bound ∷ []) (out-Core core).from st
        ≡ Ok (record { steps = Inner t.tree ∷ []; filter = [] }, st)
    unfolding body.joins body.join body.shared body.inner_join body.tests
    joins_are st = rw (is.from, is.left, is.on, is.using, there)

    module _ (terms : List Term) (less : ℕ) (then_last : Carried) (tested : body.tests lower (within outs false) [] test here ≡ Ok (terms, so_far less then_last)) where
      abbrev pub after : State
      after = so_far less then_last

      matching_is : body.matching lower (outermost s) (level_of outs) core here
          ≡ Ok (record { steps = Inner t.tree ∷ []; filter = terms }, after)
      unfolding body.matching
      matching_is = rw (joins_are here, is.filter, tested)

      body_is : body.body lower (outermost s) core (fresh 1 max_budget)
          ≡ Ok (record { level = level_of outs; steps = Inner t.tree ∷ []; filter = terms }, after)
      unfolding body.body
      body_is = rw (is.from, bounds_are is.src nothing 100000 is.origin_is is.alias is.using, outputs_are, matching_is)

      module _ (by : List Sort) (order : List (Term × Key)) (left : ℕ) (end_last : Carried) (sorted : sorts lower (within outs false) outs by (so_far less then_last) ≡ Ok (order, so_far left end_last)) where
        parts_are : parts s core by (fresh 1 max_budget)
            ≡ Ok (
              record {
                body = record { level = level_of outs; steps = Inner t.tree ∷ []; filter = terms };
                is_grouped = false;
                keys = [];
                collations = [];
                having = [];
                order = order;
              },
              so_far left end_last,
            )
        unfolding parts keys having body.tests
        parts_are = rw (body_is, is.group, is.having, sorted)

        abbrev pub draft : Draft
        draft = record {
          from = chain (Inner t.tree ∷ []);
          filter = terms;
          group = None;
          project = map (λ (o : Output). o.term) outs;
          distinct = false;
          collations = [];
          order = order;
          limit = lit (Int (negsuc 0));
          offset = number 0;
        }

        abbrev pub drafted : program.Shown
        drafted = (
          draft,
          map (λ (o : Output). o.name) outs,
          map (λ (o : Output). o.carried.collation) outs,
        )

        draft_is : named_query s core by (lit (Int (negsuc 0)), number 0) ≡ Ok drafted
        unfolding named_query assembled ungrouped
        draft_is = rw (parts_are, is.distinct)

        module _ (sel : Select) (bare : (out-Select sel).with ≡ []) (first_is : (out-Select sel).first ≡ core) (others : (out-Select sel).others ≡ []) (by_is : (out-Select sel).order ≡ by) (limit : (out-Select sel).limit ≡ None) (offset : (out-Select sel).offset ≡ None) where
          pub query_is : program.query s sel ≡ Ok (drafted, [])
          unfolding program.query program.query_to program.level program.with program.whole program.alone program.single
              program.sources program.source program.viewing paging constant_or
          query_is = rw (bare, first_is, others, by_is, limit, offset, is.from, is.origin_is, draft_is)

  -- ---- the order

  pub unordered : (all : List Output) (st : State) → sorts lower (within all false) all [] st ≡ Ok ([], st)
  unfolding sorts
  unordered all st = refl

  module _ (c : Name) (at : ℕ) (carried : Carried) (heading : Name) (r : Reads c at carried heading) (outs : List Output) where
    module _ (by : Sort) (e : Expr) (key_is : (out-Sort by).key ≡ e) (ascends : (out-Sort by).descending ≡ false) (nulls : (out-Sort by).nulls_first ≡ None) (shape : out-Expr e ≡ Expr-F.Column None c) (no_alias : alias_of c outs ≡ None) where
      peeled_is : peeled e ≡ e
      unfolding peeled
      peeled_is = rw shape

      alias_is : alias_in outs e ≡ None
      unfolding alias_in
      alias_is = rw (shape, no_alias)

      written_is : written_on e ≡ None
      unfolding written_on
      written_is = rw shape

      numeral_is : is_numeral e ≡ false
      unfolding is_numeral
      numeral_is = rw shape

      pub sorts_are : (budget : ℕ) (last : Carried) → 1 < budget
          → sorts lower (within outs false) outs (by ∷ []) (so_far budget last)
          ≡ Ok (
            (col 1 at, record { collation = unwrap_or carried.collation Binary; descending = false }) ∷ [],
            so_far (budget - 1) carried,
          )
      unfolding sorts sort key collation_of placed alone
      sorts_are budget last enough = rw (
        key_is,
        peeled_is,
        alias_is,
        written_is,
        ascends,
        nulls,
        term_is c at carried heading r outs false e shape 699 budget last enough,
        numeral_is,
      )

  -- ---- tests

  pub no_test : (all : List Output) (st : State) → body.tests lower (within all false) [] None st ≡ Ok ([], st)
  unfolding body.tests
  no_test all st = refl

  module _ (c : Name) (at : ℕ) (x : Compares c at) (outs : List Output) where
    module _ (e a b : Expr) (n : ℕ) (shape : out-Expr e ≡ Expr-F.Binary binary.Eq a b) (first : out-Expr a ≡ Expr-F.Column None c) (second : out-Expr b ≡ Expr-F.Parameter n) where
      pub test_is : (budget : ℕ) (last : Carried) → 3 < budget
          → body.tests lower (within outs false) [] (Some e) (so_far budget last)
          ≡ Ok (equal at (n - 1) ∷ [], so_far (budget - 1 - 1 - 1) nothing)
      unfolding body.tests
      test_is budget last enough = rw (equal_is c at x outs false e a b n shape first second 698 budget last enough)

  -- ---- a statement

  targets : target s t.name ≡ Ok place
  targets = rw named

  tables_at : body.table_at s place ≡ Ok t
  tables_at = rw there

  pub insert_is : (base : ℕ) (columns : List Name) (rows : Rows) (terms : List Term) (width : ℕ)
      → new_rows s t base columns rows ≡ Ok (source.Values terms width)
      → insert s base t.name columns rows ≡ Ok (Insert place (source.Values terms width))
  unfolding insert
  insert_is base columns rows terms width is = rw (named, there, is)

  module _ (test : Option Expr) (terms : List Term) (less : ℕ) (last : Carried) (tested : body.tests lower (within [] false) [] test (so_far 100000 nothing) ≡ Ok (terms, so_far less last)) where
    abbrev pub losing : Draft
    losing = simple (Inner t.tree ∷ []) terms (col 1 0 ∷ [])

    deleted_is : deleted s place t test ≡ Ok losing
    unfolding deleted picked
    deleted_is = rw tested

    pub delete_is : (it : Program) → program.program s [] losing ≡ Ok it
        → delete s t.name test ≡ Ok (Delete place it)
    unfolding delete
    delete_is it is = rw (named, there, deleted_is, is)

  module _ (c d : Name) (at to : ℕ) (x : Compares c at) (y : Compares d to) (outs : List Output) where
    module _ (e f g a b k l : Expr) (m n : ℕ) (shape : out-Expr e ≡ Expr-F.Binary binary.And f g) (left : out-Expr f ≡ Expr-F.Binary binary.Eq a b) (right : out-Expr g ≡ Expr-F.Binary binary.Eq k l)
        (first : out-Expr a ≡ Expr-F.Column None c) (second : out-Expr b ≡ Expr-F.Parameter m)
        (third : out-Expr k ≡ Expr-F.Column None d) (fourth : out-Expr l ≡ Expr-F.Parameter n) where
      both_are : (depth budget : ℕ) (last : Carried) → 7 < budget
          → lower_to (suc (suc (suc depth))) (within outs false) e (so_far budget last)
          ≡ Ok (op2 And (equal at (m - 1)) (equal to (n - 1)), so_far (budget - 1 - 1 - 1 - 1 - 1 - 1 - 1) nothing)
      unfolding lower_to node opened passes begin finish spend operation wanted_truth both tests_truth tests_alias
          combine
      both_are depth budget last enough = rw (
        under budget (omega (arith, enough)),
        shape,
        equal_is c at x outs false f a b m left first second depth (budget - 1) nothing (omega (arith, enough)),
        equal_is d to y outs false g k l n right third fourth depth (budget - 1 - 1 - 1 - 1) nothing
            (omega (arith, enough)),
      )

      pub tests_are : (budget : ℕ) (last : Carried) → 7 < budget
          → body.tests lower (within outs false) [] (Some e) (so_far budget last)
          ≡ Ok (
            equal at (m - 1) ∷ equal to (n - 1) ∷ [],
            so_far (budget - 1 - 1 - 1 - 1 - 1 - 1 - 1) nothing,
          )
      unfolding body.tests
      tests_are budget last enough = rw (both_are 697 budget last enough)

-- ---- a text

-- what a text means
pub record Means (s : Schema) (text : List ℕ) (c : Command) : Type 0 where
  pub is : command_of (understood s text) ≡ c
  pub plain : IsPlain (understood s text)
  pub unlisted : reads_listing s text ≡ false

module _ (s : Schema) (text : List ℕ) (p : Parsed) (c : Command) (reads : first text ≡ Ok p) (formats : p.formats ≡ []) (times : timed s [] p.statement ≡ []) (shows : returning s (small p.names + small []) p.statement ≡ Ok None) (is : command s [] (small p.names + small []) p.statement ≡ Ok c) where
  abbrev meant : Compiled
  meant = record {
    command = c;
    returning = None;
    names = p.names;
    formats = [];
    start = p.start;
    end = p.end;
    tail = p.tail;
  }

  compiled_is : compiled s text ≡ Ok meant
  unfolding compiled planned meaning
  compiled_is = rw (reads, formats, times, shows, is)

  unlisted_is : reads_listing s text ≡ false
  unlisted_is = rw (compiled_is)

  understood_is : understood s text ≡ Ok meant
  unfolding understood
  understood_is = rw (unlisted_is, compiled_is)

  pub means : Means s text c
  means = record {
    is = ap command_of understood_is;
    plain = subst IsPlain (sym understood_is) (refl, refl);
    unlisted = unlisted_is;
  }

-- the text deletes where this holds
pub record DeletesBy (text : List ℕ) (name : Name) (test : Option Expr) : Type 0 where
  pub p : Parsed
  pub reads : first text ≡ Ok p
  pub asked : p.statement ≡ written.Delete name test []
  pub formats : p.formats ≡ []

-- the column equals a parameter
pub record Equates (e : Expr) (c : Name) (n : ℕ) : Type 0 where
  pub a : Expr
  pub b : Expr
  pub shape : out-Expr e ≡ Expr-F.Binary binary.Eq a b
  pub first : out-Expr a ≡ Expr-F.Column None c
  pub second : out-Expr b ≡ Expr-F.Parameter n

pub record DeletesOne (text : List ℕ) (name c : Name) : Type 0 where
  pub e : Expr
  pub by : DeletesBy text name (Some e)
  pub test : Equates e c 1

pub record DeletesTwo (text : List ℕ) (name c d : Name) : Type 0 where
  pub e : Expr
  pub f : Expr
  pub g : Expr
  pub by : DeletesBy text name (Some e)
  pub shape : out-Expr e ≡ Expr-F.Binary binary.And f g
  pub one : Equates f c 1
  pub two : Equates g d 2

pub record InsertsInto (text : List ℕ) (name : Name) (base : ℕ) : Type 0 where
  pub p : Parsed
  pub columns : List Name
  pub rows : Rows
  pub reads : first text ≡ Ok p
  pub asked : p.statement ≡ written.Insert conflict.Abort name columns rows [] []
  pub formats : p.formats ≡ []
  pub counts : small p.names + small [] ≡ base

module _ (s : Schema) (place : ℕ) (t : Table) (named : table_named s t.name ≡ Some place) (there : slice_get s.tables place ≡ Some t) where
  module _ (text : List ℕ) (test : Option Expr) (by : DeletesBy text t.name test) (terms : List Term) (less : ℕ) (last : Carried) (tested : body.tests lower (within s place t named there [] false) [] test (so_far 100000 nothing) ≡ Ok (terms, so_far less last)) where
    pub deletes : (it : Program) → program.program s [] (losing s place t named there test terms less last tested) ≡ Ok it
        → Means s text (Delete place it)
    unfolding timed returning shows command
    deletes it is =
        means s text by.p (Delete place it) by.reads by.formats (rw by.asked) (rw by.asked)
        (rw by.asked (delete_is s place t named there test terms less last tested it is))

  pub inserts : (text : List ℕ) (base : ℕ) (by : InsertsInto text t.name base) (terms : List Term) (width : ℕ)
      → t.stamps.formats ≡ [] → new_rows s t base by.columns by.rows ≡ Ok (source.Values terms width)
      → Means s text (Insert place (source.Values terms width))
  unfolding timed returning shows command insert_or_abort
  inserts text base by terms width still is =
      means s text by.p (Insert place (source.Values terms width)) by.reads by.formats
      (rw (by.asked, named, there, still)) (rw by.asked)
      (rw (by.asked, by.counts) (insert_is s place t named there base by.columns by.rows terms width is))

-- ---- a query

-- a column alone is shown
pub record ShowsColumn (one : Shown) (c : Name) : Type 0 where
  pub e : Expr
  pub text : Name
  pub shows : out-Shown one ≡ Shown-F.One e None text
  pub shape : out-Expr e ≡ Expr-F.Column None c

-- the list shows these columns
pub record ShowsFirst (all : List Shown) (c : Name) (Rest : List Shown → Type 0) : Type 0 where
  pub one : Shown
  pub more : List Shown
  pub parts : all ≡ one ∷ more
  pub first : ShowsColumn one c
  pub rest : Rest more

abbrev pub ShowsAll : List Name → List Shown → Type 0
ShowsAll [] all = all ≡ []
ShowsAll (c ∷ cs) all = ShowsFirst all c (ShowsAll cs)

pub record SelectsFrom (text : List ℕ) (name : Name) (cs : List Name) (test : Option Expr) (by : List Sort) : Type 0 where
  pub p : Parsed
  pub sel : Select
  pub core : Core
  pub src : Source
  pub all : List Shown
  pub reads : first text ≡ Ok p
  pub asked : p.statement ≡ written.Select sel
  pub formats : p.formats ≡ []
  pub bare : (out-Select sel).with ≡ []
  pub first_is : (out-Select sel).first ≡ core
  pub others : (out-Select sel).others ≡ []
  pub order : (out-Select sel).order ≡ by
  pub limit : (out-Select sel).limit ≡ None
  pub offset : (out-Select sel).offset ≡ None
  pub from : (out-Core core).from ≡ src ∷ []
  pub shown : (out-Core core).shown ≡ all
  pub filter : (out-Core core).filter ≡ test
  pub group : (out-Core core).group ≡ []
  pub having : (out-Core core).having ≡ None
  pub distinct : (out-Core core).distinct ≡ false
  pub origin_is : (out-Source src).origin ≡ origin.Table name
  pub alias : (out-Source src).alias ≡ None
  pub using : (out-Source src).using ≡ []
  pub left : (out-Source src).is_left ≡ false
  pub on : (out-Source src).on ≡ None
  pub columns : ShowsAll cs all

-- in the order of a column
pub record SortsBy (by : Sort) (c : Name) : Type 0 where
  pub e : Expr
  pub key_is : (out-Sort by).key ≡ e
  pub ascends : (out-Sort by).descending ≡ false
  pub nulls : (out-Sort by).nulls_first ≡ None
  pub shape : out-Expr e ≡ Expr-F.Column None c

-- the whole table in the order of a column
pub record SelectsWhole (text : List ℕ) (name : Name) (cs : List Name) (c : Name) : Type 0 where
  pub by : Sort
  pub from : SelectsFrom text name cs None (by ∷ [])
  pub sorts : SortsBy by c

-- the rows in which a column equals a parameter
pub record SelectsOne (text : List ℕ) (name : Name) (cs : List Name) (c : Name) : Type 0 where
  pub e : Expr
  pub from : SelectsFrom text name cs (Some e) []
  pub test : Equates e c 1

module _ (s : Schema) (place : ℕ) (t : Table) (named : table_named s t.name ≡ Some place) (there : slice_get s.tables place ≡ Some t) where
  -- a name, and what it stands for
  pub record Resolved (c : Name) : Type 0 where
    pub at : ℕ
    pub carried : Carried
    pub heading : Name
    pub reads : Reads s place t named there c at carried heading

  abbrev pub AllResolved : List Name → Type 0
  AllResolved [] = Unit {0}
  AllResolved (c ∷ cs) = Resolved c × AllResolved cs

  abbrev pub asked_all : (cs : List Name) (all : List Shown) → ShowsAll cs all → AllResolved cs
      → List (Asked s place t named there)
  asked_all [] all h r = []
  asked_all (c ∷ cs) all h r =
      record {
        one = h.one;
        e = h.first.e;
        text = h.first.text;
        c = c;
        at = r.0.at;
        carried = r.0.carried;
        heading = r.0.heading;
        shows = h.first.shows;
        shape = h.first.shape;
        reads = r.0.reads;
      } ∷ asked_all cs h.more h.rest r.1

  asked_are : (cs : List Name) (all : List Shown) (h : ShowsAll cs all) (r : AllResolved cs)
      → all ≡ map (λ (a : Asked s place t named there). a.one) (asked_all cs all h r)
  asked_are [] all h r = h
  asked_are (c ∷ cs) all h r = h.parts ∙ ap (λ more. h.one ∷ more) (asked_are cs h.more h.rest r.1)

  asked_length : (cs : List Name) (all : List Shown) (h : ShowsAll cs all) (r : AllResolved cs)
      → length (asked_all cs all h r) ≡ length cs
  asked_length [] all h r = refl
  asked_length (c ∷ cs) all h r = ap suc (asked_length cs h.more h.rest r.1)

  module _ (text : List ℕ) (cs : List Name) (test : Option Expr) (by : List Sort) (q : SelectsFrom text t.name cs test by) (r : AllResolved cs) (few : length cs < 100) where
    abbrev pub asked : List (Asked s place t named there)
    asked = asked_all cs q.all q.columns r

    core_is : IsCore s place t named there q.core asked test
    core_is = record {
      src = q.src;
      from = q.from;
      shown = q.shown ∙ asked_are cs q.all q.columns r;
      filter = q.filter;
      group = q.group;
      having = q.having;
      distinct = q.distinct;
      origin_is = q.origin_is;
      alias = q.alias;
      using = q.using;
      left = q.left;
      on = q.on;
    }

    few_are : length asked < 100000
    few_are = let same : length asked ≡ length cs = asked_length cs q.all q.columns r in omega (arith, same, few)

    abbrev pub selects : List Output
    selects = map (output s place t named there) asked

    abbrev pub begins : State
    begins = so_far (100000 - length asked) (last_of s place t named there nothing asked)

    module _ (terms : List Term) (less : ℕ) (then_last : Carried) (tested : body.tests lower (within s place t named there selects false) [] test begins ≡ Ok (terms, so_far less then_last))
        (order : List (Term × Key)) (left : ℕ) (end_last : Carried) (sorted : sorts lower (within s place t named there selects false) selects by (so_far less then_last) ≡ Ok (order, so_far left end_last)) where
      abbrev pub drafts : Draft
      drafts = record {
        from = chain (Inner t.tree ∷ []);
        filter = terms;
        group = None;
        project = map (λ (o : Output). o.term) selects;
        distinct = false;
        collations = [];
        order = order;
        limit = lit (Int (negsuc 0));
        offset = number 0;
      }

      pub answers : (it : Program) → program.program s [] drafts ≡ Ok it
          → Means s text (Answer it (map (λ (o : Output). o.name) selects))
      unfolding timed returning command read
      answers it is =
          means s text q.p (Answer it (map (λ (o : Output). o.name) selects)) q.reads q.formats (rw q.asked)
          (rw q.asked)
          (rw (
            q.asked,
            query_is s place t named there q.core asked test core_is few_are terms less then_last tested by order left
                end_last sorted q.sel q.bare q.first_is q.others q.order q.limit q.offset,
            is,
          ))

-- a table is found by its name, and is the first of its tree
pub record IsFound (s : Schema) (t : Table) : Type 0 where
  pub place : ℕ
  pub named : table_named s t.name ≡ Some place
  pub there : slice_get s.tables place ≡ Some t
  pub low : nat_le (2 ^ 31) t.tree ≡ false
  pub small : nat_lt t.tree (2 ^ 31) ≡ true
  pub of_tree : find (λ u. u.tree == t.tree) s.tables ≡ Some t

module _ (s : Schema) (t : Table) (f : IsFound s t) where
  pub deletes_one : (text : List ℕ) (c : Name) (x : DeletesOne text t.name c) (at : ℕ)
      → Compares s f.place t f.named f.there c at → (it : Program)
      → program.program s [] (simple (Inner t.tree ∷ []) (equal at 0 ∷ []) (col 1 0 ∷ [])) ≡ Ok it
      → Means s text (Delete f.place it)
  deletes_one text c x at y it is =
      deletes s f.place t f.named f.there text (Some x.e) x.by (equal at 0 ∷ []) (100000 - 1 - 1 - 1) nothing
      (test_is s f.place t f.named f.there c at y [] x.e x.test.a x.test.b 1 x.test.shape x.test.first x.test.second
      100000 nothing (omega arith)) it is

  pub deletes_two : (text : List ℕ) (c d : Name) (x : DeletesTwo text t.name c d) (at to : ℕ)
      → Compares s f.place t f.named f.there c at → Compares s f.place t f.named f.there d to → (it : Program)
      → program.program s []
      (simple (Inner t.tree ∷ []) (equal at 0 ∷ equal to 1 ∷ []) (col 1 0 ∷ [])) ≡ Ok it
      → Means s text (Delete f.place it)
  deletes_two text c d x at to y z it is =
      deletes s f.place t f.named f.there text (Some x.e) x.by (equal at 0 ∷ equal to 1 ∷ [])
      (100000 - 1 - 1 - 1 - 1 - 1 - 1 - 1) nothing
      (tests_are s f.place t f.named f.there c d at to y z [] x.e x.f x.g x.one.a x.one.b x.two.a x.two.b 1 2 x.shape
      x.one.shape x.two.shape x.one.first x.one.second x.two.first x.two.second 100000 nothing (omega arith)) it is

module _ (s : Schema) (t : Table) (f : IsFound s t) where
  abbrev pub Resolves : Name → Type 0
  Resolves = Resolved s f.place t f.named f.there

  abbrev pub resolves_column : (c : Name) (j : ℕ) (it : Column) → column_named t c ≡ Some j → slice_get t.columns j ≡ Some it
      → Resolves c
  resolves_column c j it is has = record {
    at = place_of t j;
    carried = declared t j it;
    heading = it.name;
    reads = by_column s f.place t f.named f.there c j it is has;
  }

  abbrev pub resolves_rowid : column_named t (codes "rowid") ≡ None → t.key ≡ None → Resolves (codes "rowid")
  resolves_rowid none key = record {
    at = 0;
    carried = nothing;
    heading = codes "rowid";
    reads = Rattle.smf_tables.proofs.Named.by_rowid s f.place t f.named f.there none f.small key;
  }

-- ---- a select

abbrev pub picking : List Step → List Term → List Term → List (Term × Key) → Draft
picking steps filter project order = record {
  from = chain steps;
  filter = filter;
  group = None;
  project = project;
  distinct = false;
  collations = [];
  order = order;
  limit = lit (Int (negsuc 0));
  offset = number 0;
}

-- no name of a result is an alias
no_alias : (s : Schema) (place : ℕ) (t : Table) (named : table_named s t.name ≡ Some place) (there : slice_get s.tables place ≡ Some t)
    (c : Name) (all : List (Asked s place t named there)) (at : ℕ)
    → position_from (λ (o : Output). o.is_alias && same_name o.name c) at (map (output s place t named there) all) ≡ None
no_alias s place t named there c [] at = refl
no_alias s place t named there c (a ∷ all) at = no_alias s place t named there c all (at + 1)

module _ (s : Schema) (t : Table) (f : IsFound s t) (text : List ℕ) (cs : List Name) (c : Name) where
  abbrev pub Columns : Type 0
  Columns = AllResolved s f.place t f.named f.there cs

  module _ (x : SelectsOne text t.name cs c) (r : Columns) (few : length cs < 100) where
    abbrev shown_one : List (Asked s f.place t f.named f.there)
    shown_one = asked_all s f.place t f.named f.there cs x.from.all x.from.columns r

    abbrev outs_one : List Output
    outs_one = map (output s f.place t f.named f.there) shown_one

    pub selects_one : (at : ℕ) → Compares s f.place t f.named f.there c at → (it : Program)
        → program.program s []
        (picking (Inner t.tree ∷ []) (equal at 0 ∷ []) (map (λ (o : Output). o.term) outs_one) []) ≡ Ok it
        → Means s text (Answer it (map (λ (o : Output). o.name) outs_one))
    selects_one at y it is =
        let count : length shown_one ≡ length cs =
        asked_length s f.place t f.named f.there cs x.from.all x.from.columns r in
        let budget = 100000 - length shown_one in
        let last = last_of s f.place t f.named f.there nothing shown_one in
        answers s f.place t f.named f.there text cs (Some x.e) [] x.from r few (equal at 0 ∷ [])
        (budget - 1 - 1 - 1) nothing
        (test_is s f.place t f.named f.there c at y outs_one x.e x.test.a x.test.b 1 x.test.shape x.test.first
        x.test.second budget last (omega (arith, count, few)))
        [] (budget - 1 - 1 - 1) nothing
        (unordered s f.place t f.named f.there outs_one (so_far (budget - 1 - 1 - 1) nothing)) it is

  module _ (x : SelectsWhole text t.name cs c) (r : Columns) (few : length cs < 100) where
    abbrev shown_whole : List (Asked s f.place t f.named f.there)
    shown_whole = asked_all s f.place t f.named f.there cs x.from.all x.from.columns r

    abbrev outs_whole : List Output
    outs_whole = map (output s f.place t f.named f.there) shown_whole

    pub selects_whole : (k : Resolved s f.place t f.named f.there c) → k.at ≡ 0
        → unwrap_or k.carried.collation Binary ≡ Binary → (it : Program)
        → program.program s []
        (picking (Inner t.tree ∷ []) [] (map (λ (o : Output). o.term) outs_whole) rowid_order) ≡ Ok it
        → Means s text (Answer it (map (λ (o : Output). o.name) outs_whole))
    selects_whole k first how it is =
        let count : length shown_whole ≡ length cs =
        asked_length s f.place t f.named f.there cs x.from.all x.from.columns r in
        let budget = 100000 - length shown_whole in
        let last = last_of s f.place t f.named f.there nothing shown_whole in
        answers s f.place t f.named f.there text cs None (x.by ∷ []) x.from r few [] budget last
        (no_test s f.place t f.named f.there outs_whole (so_far budget last))
        rowid_order (budget - 1) k.carried
        (sorts_are s f.place t f.named f.there c k.at k.carried k.heading k.reads outs_whole x.by x.sorts.e
        x.sorts.key_is x.sorts.ascends x.sorts.nulls x.sorts.shape
        (no_alias s f.place t f.named f.there c shown_whole 0) budget last (omega (arith, count, few))
        ∙ ap₂ (λ n k'. Ok ((col 1 n, record { collation = k'; descending = false }) ∷ [], so_far (budget - 1) k.carried))
        first how) it is
