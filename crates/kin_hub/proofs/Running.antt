-- The run that a raise passes, in each chain.
use Rattle.std.proofs.Common.{◌≡◌, ℕ, ◌<◌, ◌≤◌, Bool, true, false, cond, leb, eqb, ◌&&◌, ◌⊎◌, inl, inr, ⊎_elim, List, [], ◌∷◌, ◌++◌}
use Rattle.std.proofs.Common.{refl, sym, ◌∙◌, ap, subst, arith, length, get_or}
use Rattle.std.specs.Prelude.{All}
use Rattle.std.proofs.lemmas.Bool.{cond_both, cond-true, cond-false, false≢true, or_cases, and_parts, eqb-true, ne_eqb, le-leb}
use Rattle.std.proofs.lemmas.List.{get_or-map, length-map}
use Rattle.std.proofs.lemmas.List.Elements.{All-head, All-tail}
use Rattle.kin_ids.specs.declared.stamps.Stamp.{Stamp}
use Rattle.kin_ids.specs.declared.ops.Record.{Record}
use Rattle.kin_ids.specs.declared.ops.Piece.{Piece}
use Rattle.kin_ids.specs.Lines.{same_stamp, has, end_of, stamps_of, upto, past, IsLine, IsEnd}
use Rattle.kin_ids.proofs.Lines.{same_from_test, line_grows, upto-past, upto-append, upto-none, past-line, past-none, IsLine-front}
use Rattle.kin_ids.proofs.Lines.{IsLine-rest, least-le}
use Rattle.kin_held.specs.Chains.{ChainView, chain_at}
use Rattle.kin_table.specs.Ends.{inc_at}
use Rattle.kin_table.specs.Tables.{row_at, agreed_of, inc_of, inc_in, reach_of}
use Rattle.kin_hub.specs.Fronts.{common_of}
use Rattle.kin_hub.specs.Cores.{CoreView, chain_of, past_in, least_reach, ready_run, ready}
use Rattle.kin_hub.specs.Stands.{Story, CoreStands}
use Rattle.kin_hub.proofs.Begins.{Begins, begins-through, begins-upto, common_of-each, upto-within, has-left, has-right}
use Rattle.kin_hub.proofs.Fronts.{upto_over}

-- a line that ends at or before a position is whole up to it
upto_whole : (at b : ℕ) (ss : List Stamp) → IsLine at ss → end_of at ss ≤ b → upto b ss ≡ ss
upto_whole at b [] l le = refl
upto_whole at b (s ∷ ss) l le = let grows = line_grows s.to ss l.2 in cond-true (leb s.to b) _ _ (le-leb _ _ (omega arith))
    ∙ ap (λ ys. s ∷ ys) (upto_whole s.to b ss l.2 le)

-- a line that begins with a run goes on with it up to the run's end
pub run-upto : (at a : ℕ) (ss run : List Stamp) → IsLine at ss → IsEnd at ss a → Begins run (past a ss) → upto (end_of a run) ss ≡ upto a ss
    ++ run
run-upto at a ss run line end b =
    let later : IsLine a (run ++ b.rest) = subst (IsLine a) b.is (past-line at a ss line end) in
    let first = IsLine-front a run b.rest later in
    let stop : upto (end_of a run) (run ++ b.rest) ≡ run = upto-append (end_of a run) run b.rest
    (upto-none (end_of a run) (end_of a run) b.rest (IsLine-rest a run b.rest later) (omega arith))
    ∙ upto_whole a (end_of a run) run first (omega arith) in
    ap (upto (end_of a run)) (sym (upto-past a ss)) ∙ (upto_over a (end_of a run) ss (past a ss) (line_grows a run first)
    ∙ ap (λ ys. upto a ss ++ ys) (ap (upto (end_of a run)) b.is ∙ stop))

-- what is past a position of a line and of a run that follows it
pub past-append : (f a : ℕ) (xs ys : List Stamp) → IsLine a ys → f ≤ a → past f (xs ++ ys) ≡ past f xs ++ ys
past-append f a [] ys l le = past-none a f ys l le
past-append f a (x ∷ xs) ys l le = cond_both (leb x.to f) (past f xs) (x ∷ xs) (λ zs. cond (leb x.to f) (past f (xs ++ ys)) (x ∷ xs ++ ys)
    ≡ zs ++ ys)
    (λ t. cond-true (leb x.to f) _ _ t ∙ past-append f a xs ys l le) (λ n. cond-false (leb x.to f) _ _ n)

-- no stamp that follows a position ends there or before
inc_at-none : (at v : ℕ) (ss : List Stamp) → IsLine at ss → v ≤ at → inc_at ss v ≡ 0
inc_at-none at v [] l le = refl
inc_at-none at v (s ∷ ss) l le =
    let some : at < s.to = l.1 in
    cond-false (eqb s.to v) _ _ (ne_eqb _ _ (λ e. absurd (omega arith))) ∙ inc_at-none s.to v ss l.2 (omega arith)

pub inc_at-append : (at v : ℕ) (xs ys : List Stamp) → IsLine at ys → v ≤ at → inc_at (xs ++ ys) v ≡ inc_at xs v
inc_at-append at v [] ys l le = inc_at-none at v ys l le
inc_at-append at v (x ∷ xs) ys l le = ap (λ n. cond (eqb x.to v) x.inc.0 n) (inc_at-append at v xs ys l le)

-- the piece of a stamp
pub record PieceOf (P : Piece → Type 0) (s : Stamp) : Type 0 where
  pub piece : Piece
  pub stamp : piece.stamp ≡ s
  pub holds : P piece

pub piece-of : (P : Piece → Type 0) (ps : List Piece) (s : Stamp) → All P ps → has (stamps_of ps) s ≡ true → PieceOf P s
piece-of P [] s all h = absurd (false≢true h)
piece-of P (p ∷ ps) s all h = ⊎_elim (λ (e : same_stamp p.stamp s ≡ true). record {
  piece = p;
  stamp = same_from_test p.stamp s e;
  holds = All-head P p ps all;
})
    (λ (k : has (stamps_of ps) s ≡ true). piece-of P ps s (All-tail P p ps all) k) (or_cases _ _ h)

module _ (story : Story) (old : CoreView) (s : CoreStands story old) (j : ℕ) (j_lt : j < length story.feeds) where
  abbrev At : ℕ
  At = agreed_of old.table j

  abbrev Run : List Stamp
  Run = ready_run old j

  abbrev stamps : ℕ → List Stamp
  stamps p = stamps_of (chain_of old p j).held

  -- each chain goes on with the run
  pub run-begins : (p : ℕ) → p < story.parts → Begins Run (past At (stamps p))
  run-begins p p_lt =
      let lists = past_in old.helds At j in
      let count = s.parts_are in
      let many : length lists ≡ length old.helds =
      length-map old.helds (λ (held : List ChainView). past At (stamps_of (chain_at held j).held)) in
      subst (Begins Run) (get_or-map (λ (held : List ChainView). past At (stamps_of (chain_at held j).held)) old.helds p [] []
      (omega arith))
      (begins-through Run (common_of lists) (get_or lists p []) (begins-upto (least_reach old j) (common_of lists))
      (common_of-each lists p (omega arith)))

  pub run-line : 0 < story.parts → IsLine At Run
  run-line some =
      let ch = s.chains 0 j some j_lt in
      let b = run-begins 0 some in
      IsLine-front At Run b.rest (subst (IsLine At) b.is (past-line (chain_of old 0 j).floor At (stamps 0) ch.run.0 ch.ends))

  pub run-has : (p : ℕ) → p < story.parts → (x : Stamp) → has Run x ≡ true → has (stamps p) x ≡ true
  run-has p p_lt x h =
      let b = run-begins p p_lt in
      subst (λ ys. has ys x ≡ true) (upto-past At (stamps p)) (has-right (upto At (stamps p)) (past At (stamps p)) x
      (subst (λ ys. has ys x ≡ true) (sym b.is) (has-left Run b.rest x h)))

  pub rises : 0 < story.parts → At ≤ ready old j
  rises some = line_grows At Run (run-line some)

  -- a partition's reach is at or past the agreed position
  pub reach-from : (p : ℕ) → p < story.parts → At ≤ reach_of old.table p j
  reach-from p p_lt = go ((row_at old.table.rows p).reported && eqb (inc_in (row_at old.table.rows p).incs j) (inc_of old.table j)) refl
    where
      go : (b : Bool) → ((row_at old.table.rows p).reported && eqb (inc_in (row_at old.table.rows p).incs j) (inc_of old.table j)) ≡ b
          → At ≤ reach_of old.table p j
      go true e = let both = and_parts _ _ e in rw e ((s.rows p j p_lt j_lt both.0).top (eqb-true _ _ both.1))
      go false e = rw e (omega arith)

  -- where the position moved, a row is of the last incarnation and reaches it
  pub record Reaches (p : ℕ) : Type 0 where
    pub reported : (row_at old.table.rows p).reported ≡ true
    pub inc : inc_in (row_at old.table.rows p).incs j ≡ inc_of old.table j
    pub top : ready old j ≤ get_or (row_at old.table.rows p).tops j 0

  pub within : (p : ℕ) → p < story.parts → (ready old j ≡ At) ⊎ (ready old j ≤ reach_of old.table p j)
  within p p_lt = ⊎_elim (λ (e : ready old j ≡ At). inl e)
      (λ (le : ready old j ≤ least_reach old j).
      let rows = s.core.parts in
      let count = s.parts_are in
      let low : least_reach old j ≤ reach_of old.table p j = least-le (reach_of old.table 0 j) (length old.table.rows)
      (λ q. reach_of old.table q j) p (omega arith) in
      inr (omega arith))
      (upto-within At (least_reach old j) (common_of (past_in old.helds At j)))

  pub reaches : (p : ℕ) → p < story.parts → (ready old j ≡ At) ⊎ Reaches p
  reaches p p_lt = ⊎_elim (λ (e : ready old j ≡ At). inl e)
      (λ (le : ready old j ≤ reach_of old.table p j).
      go le ((row_at old.table.rows p).reported && eqb (inc_in (row_at old.table.rows p).incs j) (inc_of old.table j)) refl)
      (within p p_lt)
    where
      go : ready old j ≤ reach_of old.table p j → (b : Bool)
          → ((row_at old.table.rows p).reported && eqb (inc_in (row_at old.table.rows p).incs j) (inc_of old.table j)) ≡ b
          → (ready old j ≡ At) ⊎ Reaches p
      go le true e = let both = and_parts _ _ e in inr (record { reported = both.0; inc = eqb-true _ _ both.1; top = rw e at le })
      go le false e = let low : ready old j ≤ At = rw e at le in let up = rises (omega arith) in inl (omega arith)

  pub at_most : (p : ℕ) → p < story.parts → ready old j ≤ reach_of old.table p j
  at_most p p_lt = ⊎_elim (λ (e : ready old j ≡ At). let low = reach-from p p_lt in
      omega arith) (λ (le : ready old j ≤ reach_of old.table p j). le) (within p p_lt)
