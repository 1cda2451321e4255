use Rattle.std.proofs.Common.{◌≡◌, ℕ, ◌+◌, ◌<◌, ◌∙◌, List, subst, sym, ap, rules}
use Rattle.kin_ids.specs.declared.ops.Piece.{Piece}
use Rattle.kin_table.specs.Vectors.{vector_at}
use Rattle.kin_blocks.specs.Blocks.{pieces_of}
use Rattle.kin_blocks.specs.Versions.{CommitsNext}
use Rattle.kin_hub.specs.Cores.{held_at}
use Rattle.kin_hub.specs.Hubs.{HubView, parts_in, nodes_in, committed_in}
use Rattle.kin_hub.specs.Commits.{epoch_pieces, next_pieces, MayCommit, Commits}
use Rattle.kin_hub.specs.Goes.{HubKeeps}
use Rattle.kin_hub.proofs.Goings.{some-keeps}
use Rattle.kin_hub.proofs.Committing.{may-apply, may-drop, commits-of, commit-keeps}
use Rattle.kin_hub.proofs.hubs.Hub.commit.Goals as goal

pub commit-requires-clause-may : goal.commit-requires-clause-may
commit-requires-clause-may c =
    let was : HubView = record { core = c.self.inside.core; versions = c.self.inside.versions } in
    let last : c.committed-last.result ≡ committed_in was c.args.p.0 = c.committed-last.ensures in
    let all : pieces_of c.deref.result.now ≡ next_pieces was c.args.p.0 =
    ap pieces_of c.deref.ensures.value ∙ (c.in_ok-runs.ensures
    ∙ ap (λ (k : ℕ). epoch_pieces (held_at was.core.helds c.args.p.0) (vector_at was.core.table.vectors (k + 1)) (nodes_in was))
    last) in
    rw all (may-apply was c.args.p.0 (subst (λ (h : HubView). c.args.p.0 < parts_in h) (sym c.self.view_is) c.requires.part)
    (search rules) c.self.invariant (subst (λ (h : HubView). MayCommit h c.args.p.0) (sym c.self.view_is) c.requires.said))

pub forget-requires-clause-places : goal.forget-requires-clause-places
forget-requires-clause-places c =
    let was : HubView = record { core = c.self.inside.core; versions = c.self.inside.versions } in
    may-drop was c.args.p.0 c.committed-last.result (subst (λ (h : HubView). c.args.p.0 < parts_in h) (sym c.self.view_is) c.requires.part)
    c.committed-last.ensures (search rules) c.self.invariant

keeps : (c : goal.After-forget) → HubKeeps (record { core = c.self.inside.core; versions = c.self.inside.versions })
    (record { core = c.forget.new.self; versions = c.commit.new.self })
keeps c =
    let was : HubView = record { core = c.self.inside.core; versions = c.self.inside.versions } in
    let new : HubView = record { core = c.forget.new.self; versions = c.commit.new.self } in
    let all : pieces_of c.deref.result.now ≡ next_pieces was c.args.p.0 =
    ap pieces_of c.deref.ensures.value ∙ (c.in_ok-runs.ensures
    ∙ ap (λ (k : ℕ). epoch_pieces (held_at was.core.helds c.args.p.0) (vector_at was.core.table.vectors (k + 1)) (nodes_in was))
    c.committed-last.ensures) in
    let commits : Commits was c.args.p.0 new = commits-of was c.args.p.0 c.committed-last.result c.forget.new.self c.commit.new.self
    c.committed-last.ensures c.forget.ensures.forgets
    (subst (λ (xs : List Piece). CommitsNext was.versions c.args.p.0 xs c.commit.new.self) all c.in_ok-commit.ensures.ok) in
    commit-keeps was c.args.p.0 new (subst (λ (h : HubView). c.args.p.0 < parts_in h) (sym c.self.view_is) c.requires.part)
    (search rules) commits c.forget.ensures.core c.commit.ensures.versions

pub invariant_of-self-2 : goal.invariant_of-self-2
invariant_of-self-2 c = some-keeps (record { core = c.self.inside.core; versions = c.self.inside.versions })
    (record { core = c.forget.new.self; versions = c.commit.new.self }) (keeps c) c.self.invariant

pub returns-clause-stands : goal.returns-clause-stands
returns-clause-stands c = subst (λ (h : HubView). HubKeeps h (record { core = c.forget.new.self; versions = c.commit.new.self }))
    c.self.view_is (keeps c)
