use Rattle.std.proofs.Common.{◌≡◌, subst, sym}
use Rattle.std.proofs.lemmas.Result.{IfOk-weaker}
use Rattle.kin_store.specs.State.{PartState, view_of}
use Rattle.kin_graph.specs.Deltas.{DeltaLists, IsDelta}
use Rattle.kin_graph.specs.Gathered.{IsFilled}
use Rattle.kin_graph.specs.Touches.{NotesAll}
use Rattle.kin_graph.proofs.AllNoting.{touched-all}
use Rattle.kin_graph.proofs.Exact.{delta-exact}
use Rattle.kin_graph.proofs.differences.delta.Goals as goal

pub returns : goal.returns
returns c =
    let all = c.note_all.new.self in
    let lists = c.in_ok-lists.lists in
    let noted : NotesAll (view_of c.args.new.now) all =
    subst (λ (s : PartState). NotesAll (view_of s) all) c.new.view_is c.in_ok-note_all.ensures in
    let here : IsFilled all (view_of c.old.inside.current) (view_of c.args.new.now) lists =
    subst (λ (s : PartState). IsFilled all (view_of c.old.inside.current) (view_of s) lists) c.new.view_is c.in_ok-lists.ensures.filled in
    let filled : IsFilled all (view_of c.args.old.now) (view_of c.args.new.now) lists =
    subst (λ (s : PartState). IsFilled all (view_of s) (view_of c.args.new.now) lists) c.old.view_is here in
    let exact : IsDelta (view_of c.args.old.now) (view_of c.args.new.now) lists =
    delta-exact all (view_of c.args.old.now) (view_of c.args.new.now)
    (touched-all all (view_of c.args.old.now) (view_of c.args.new.now) c.requires noted) c.in_ok-lists.ensures.noted lists filled in
    IfOk-weaker c.of.result (λ d. d ≡ lists) (λ d. IsDelta (view_of c.args.old.now) (view_of c.args.new.now) d)
    (λ d e. subst (λ (l : DeltaLists). IsDelta (view_of c.args.old.now) (view_of c.args.new.now) l) (sym e) exact) c.of.ensures
