-- The operations of a partition take its part of any graph to its part of the graph after their records.
use Rattle.std.specs.Prelude.{ℕ, ◌<◌, ◌==◌, List, [], filter}
use Rattle.kin_ids.specs.Types.{Record, Stamp}
use Rattle.kin_ids.specs.Graph.{Graph, empty_graph, applied}
use Rattle.kin_ids.specs.Order.{entries, folded}
use Rattle.kin_ids.specs.Operations.{op_part, record_ops, numbered, part_ops, stamp_records}
use Rattle.kin_ids.specs.Parts.{PartView, IsPart, ops_applied}

-- the view of a part with nothing
abbrev pub empty_view : PartView
empty_view = record { out = λ u. []; inn = λ u. []; mentions = λ u. []; mentioners = λ u. []; said = λ u. 0; uses = λ u. []; tag_users = λ t. [] }

abbrev pub EmptyLaw : Type 0
EmptyLaw = (parts p : ℕ) → IsPart parts p empty_graph empty_view

-- one record, the n-th of node i's feed, in epoch e
abbrev pub RecordLaw : Type 0
RecordLaw = (parts p e i n : ℕ) (g : Graph) (v : PartView) (r : Record) → IsPart parts p g v →
    IsPart parts p (applied (record { epoch = record { 0 = e }; ingest = record { 0 = i }; number = n }) g r) (ops_applied e i v (filter (λ x. op_part parts x.op == p) (numbered n (record_ops r))))

-- records of node i that follow position n
abbrev pub PartLaw : Type 0
PartLaw = (parts p e i n : ℕ) (g : Graph) (v : PartView) (rs : List Record) → IsPart parts p g v →
    IsPart parts p (folded g (entries e i n rs)) (ops_applied e i v (part_ops parts p n rs))

-- all pieces of a transaction, applied to the parts of any graph, give the parts of the graph after its records
abbrev pub PiecesLaw : Type 0
PiecesLaw = (parts e : ℕ) (feeds : List (List Record)) (s : Stamp) (g : Graph) (views : ℕ → PartView) → ((p : ℕ) → p < parts → IsPart parts p g (views p)) →
    (p : ℕ) → p < parts → IsPart parts p (folded g (entries e s.ingest.0 s.from (stamp_records feeds s))) (ops_applied e s.ingest.0 (views p) (part_ops parts p s.from (stamp_records feeds s)))
