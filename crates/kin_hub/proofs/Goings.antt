-- What stands after each call of a hub.
use Rattle.std.proofs.Common.{◌≡◌, ℕ, ◌<◌, ◌≤◌, ◌+◌, Option, List, [], ◌∷◌, Result, Ok, Err, refl, sym, subst, arith, length, replicate}
use Rattle.std.proofs.lemmas.List.{length-replicate, length-map}
use Rattle.std.specs.Result.{IfOk, OnOk, OnErr}
use Rattle.kin_ids.specs.declared.ops.Record.{Record}
use Rattle.kin_ids.specs.declared.ops.Piece.{Piece}
use Rattle.kin_ids.specs.declared.faults.Memory.{Memory}
use Rattle.std.specs.List.{All}
use Rattle.std.proofs.lemmas.List.Elements.{All-nil, All-cons}
use Rattle.kin_ids.specs.Lines.{stamps_of, past, IsLine}
use Rattle.kin_ids.proofs.Lines.{past-line}
use Rattle.kin_table.specs.Lists.{list_at}
use Rattle.kin_held.specs.Chains.{ChainView, chain_at}
use Rattle.kin_held.specs.declared.answers.Taken.{Taken}
use Rattle.kin_ids.specs.declared.stamps.End.{End}
use Rattle.kin_ids.specs.declared.stamps.Stamp.{Stamp}
use Rattle.kin_table.specs.declared.answers.IncarnationsSpent.{IncarnationsSpent}
use Rattle.kin_table.specs.declared.answers.CutRefused.{CutRefused}
use Rattle.kin_table.specs.declared.cuts.Cut.{Cut}
use Rattle.kin_table.specs.Cuts.{IsNextCut}
use Rattle.kin_table.specs.Tables.{agreed_of, reach_of, cuts_of}
use Rattle.kin_blocks.specs.Versions.{VersionsView, IsVersions, first_versions}
use Rattle.kin_hub.specs.Cores.{CoreView, IsCore, CoreTakes, chain_of, least_reach, past_in, ready_run, ready, stamps_between}
use Rattle.kin_hub.specs.Cores.{since_cut, with_cut, with_report, with_raise, with_seal}
use Rattle.kin_hub.specs.Fronts.{IsLongestFront}
use Rattle.kin_hub.specs.Hubs.{HubView, nodes_in, parts_in, agreed_in, last_in, cuts_in}
use Rattle.kin_hub.specs.Stands.{Story, CoreStands, StoresStand, HubStands, HasStory}
use Rattle.kin_hub.specs.Goes.{Knows, HubPlaces, HubKeeps, HubRaises, HubSeals, HubCuts, AreSince, raised_story, sealed_story}
use Rattle.kin_hub.specs.Goes.{cut_story, next_of}
use Rattle.kin_hub.specs.Cuts.{HasRecords, with_next}
use Rattle.kin_hub.specs.Opens.{first_core, first_hub, first_story}
use Rattle.kin_hub.proofs.Begins.{longest-front}
use Rattle.kin_hub.proofs.Running.{reach-from, rises, at_most}
use Rattle.kin_hub.proofs.Taking.{take-stands}
use Rattle.kin_hub.proofs.Reporting.{report-stands}
use Rattle.kin_hub.proofs.Sealing.{seal-stands}
use Rattle.kin_hub.proofs.Raising.{raise-stands}
use Rattle.kin_hub.proofs.Cutting.{last-is, last-low, list-is, since-is, cut-stands}
use Rattle.kin_hub.proofs.Opening.{opens-stands, first-floor}
use Rattle.kin_hub.proofs.Holding.{node-in}
use Rattle.kin_hub.proofs.Storing.{stores-go, take-floor, cut-stores, first-stores}

module _ (old : HubView) (x : Piece) (n_lt : x.stamp.ingest.0 < nodes_in old) (q_lt : x.part.0 < parts_in old) (new : CoreView)
    (core : IsCore new) where
  places : (t : Taken) → CoreTakes old.core x t new → HubPlaces old x (record old { core = new })
  places t takes story known s = record {
    core = take-stands story old.core s.core x (let nodes = s.core.nodes_are in omega arith) (let count = s.core.parts_are in
        omega arith) known.fits known.inc known.base t new takes core;
    stores = stores-go story.parts story.feeds story.vectors old new s.stores (subst (λ (c : CoreView). cuts_in old ≤ cuts_of c.table)
        (sym takes.2) (omega arith))
        (λ p i p_lt i_lt. take-floor old.core x t new takes q_lt
        (node-in story old.core s.core x.part.0 x.stamp.ingest.0 (let count = s.core.parts_are in
        omega arith) (let nodes = s.core.nodes_are in omega arith)) p i);
  }

  pub take-places : (r : Result Taken Memory) → IfOk r (λ t. CoreTakes old.core x t new)
      → IfOk r (λ _. HubPlaces old x (record old { core = new }))
  take-places (Ok t) takes = places t takes
  take-places (Err e) takes = tt

  pub take-some : (r : Result Taken Memory) → IfOk r (λ t. CoreTakes old.core x t new) → OnErr r (new ≡ old.core) → Knows old x
      → HasStory old → HasStory (record old { core = new })
  take-some (Ok t) takes err (story, s, known) has = (story, places t takes story known s)
  take-some (Err e) takes err known has = subst (λ (c : CoreView). HasStory (record old { core = c })) (sym err) has

-- some stands go on
pub some-keeps : (old new : HubView) → HubKeeps old new → HasStory old → HasStory new
some-keeps old new keeps (story, s) = (story, keeps story s)

pub some-raises : (old new : HubView) (j : ℕ) → HubRaises old j new → HasStory old → HasStory new
some-raises old new j raises (story, s) = (raised_story story j (ready_run old.core j), raises story s)

pub some-seals : (old new : HubView) (j : ℕ) → HubSeals old j new → HasStory old → HasStory new
some-seals old new j seals (story, s) = (sealed_story story j (agreed_in old j), seals story s)

pub report-keeps : (old : HubView) (p : ℕ) (new : CoreView) → p < parts_in old → IsCore new → new ≡ with_report old.core p
    → HubKeeps old (record old { core = new })
report-keeps old p new lt core is story s = record {
  core = subst (CoreStands story) (sym is) (report-stands story old.core s.core p (let count = s.core.parts_are in
      omega arith) (subst IsCore is core));
  stores = subst (λ (c : CoreView). StoresStand story.parts story.feeds story.vectors (record old { core = c })) (sym is)
      (stores-go story.parts story.feeds story.vectors old (with_report old.core p) s.stores (omega arith) (λ q i q_lt i_lt. refl));
}

pub seal-seals : (old : HubView) (j : ℕ) (new : CoreView) → j < nodes_in old → IsCore new → new ≡ with_seal old.core j
    → HubSeals old j (record old { core = new })
seal-seals old j new lt core is story s = record {
  core = subst (CoreStands (sealed_story story j (agreed_in old j))) (sym is)
      (seal-stands story old.core s.core j (let nodes = s.core.nodes_are in omega arith) (subst IsCore is core));
  stores = subst (λ (c : CoreView). StoresStand story.parts story.feeds story.vectors (record old { core = c })) (sym is)
      (stores-go story.parts story.feeds story.vectors old (with_seal old.core j) s.stores (omega arith) (λ q i q_lt i_lt. refl));
}

module _ (old : HubView) (j : ℕ) (new : CoreView) (lt : j < nodes_in old) (core : IsCore new) where
  pub seal-result : (r : Result End IncarnationsSpent) → OnOk r (new ≡ with_seal old.core j)
      → OnOk r (HubSeals old j (record old { core = new }))
  seal-result (Ok end) is = seal-seals old j new lt core is
  seal-result (Err e) is = tt

  pub seal-some : (r : Result End IncarnationsSpent) → OnErr r (new ≡ old.core) → OnOk r (new ≡ with_seal old.core j) → HasStory old
      → HasStory (record old { core = new })
  seal-some (Ok end) same is has = some-seals old (record old { core = new }) j (seal-seals old j new lt core is) has
  seal-some (Err e) same is has = subst (λ (c : CoreView). HasStory (record old { core = c })) (sym same) has

pub raise-raises : (old : HubView) (j : ℕ) (new : CoreView) → j < nodes_in old → IsCore new → new ≡ with_raise old.core j
    → HubRaises old j (record old { core = new })
raise-raises old j new lt core is story s = record {
  core = subst (CoreStands (raised_story story j (ready_run old.core j))) (sym is)
      (raise-stands story old.core s.core j (let nodes = s.core.nodes_are in omega arith)
      (let some = s.core.core.table.parts in let rows = s.core.core.parts in let count = s.core.parts_are in
      omega arith) (subst IsCore is core));
  stores = subst (λ (c : CoreView). StoresStand story.parts story.feeds story.vectors (record old { core = c })) (sym is)
      (stores-go story.parts story.feeds story.vectors old (with_raise old.core j) s.stores (omega arith) (λ q i q_lt i_lt. refl));
}

-- what a raise asks of the table holds of a hub that stands for something
pub record IsRaisable (c : CoreView) (i : ℕ) : Type 0 where
  pub reached : (p : ℕ) → p < length c.table.rows → agreed_of c.table i ≤ reach_of c.table p i
  pub at_least : agreed_of c.table i ≤ ready c i
  pub at_most : (p : ℕ) → p < length c.table.rows → ready c i ≤ reach_of c.table p i

pub raisable : (h : HubView) (i : ℕ) → i < nodes_in h → HasStory h → IsRaisable h.core i
raisable h i lt (story, s) =
    let nodes = s.core.nodes_are in
    let rows = s.core.core.parts in
    let count = s.core.parts_are in
    let some = s.core.core.table.parts in
    let i_lt : i < length story.feeds = omega arith in
    record {
      reached = λ p p_lt. reach-from story h.core s.core i i_lt p (omega arith);
      at_least = rises story h.core s.core i i_lt (omega arith);
      at_most = λ p p_lt. at_most story h.core s.core i i_lt p (omega arith);
    }

-- before anything came
pub opens-all : (nodes parts : ℕ) → IsCore (first_core nodes parts) → IsVersions (first_versions parts) → (feeds : List (List Record))
    → length feeds ≡ nodes → HubStands (first_story feeds parts) (first_hub nodes parts)
opens-all nodes parts core versions feeds count = record {
  core = opens-stands nodes parts feeds count core;
  stores = first-stores nodes parts feeds versions (λ p i lt. first-floor nodes parts feeds count p i lt);
}

pub opens-some : (nodes parts : ℕ) → IsCore (first_core nodes parts) → IsVersions (first_versions parts) → HasStory (first_hub nodes parts)
opens-some nodes parts core versions =
    let feeds : List (List Record) = replicate nodes [] in
    (first_story feeds parts, opens-all nodes parts core versions feeds (length-replicate nodes []))

pub opens : (nodes parts : ℕ) (c : CoreView) (v : VersionsView) → IsCore c → c ≡ first_core nodes parts → IsVersions v
    → v ≡ first_versions parts → (feeds : List (List Record)) → length feeds ≡ nodes →
    HubStands (first_story feeds parts) (record { core = c; versions = v })
opens nodes parts c v core core_is versions versions_is feeds count =
    subst (λ (c : CoreView). HubStands (first_story feeds parts) (record { core = c; versions = v })) (sym core_is)
    (subst (λ (v : VersionsView). HubStands (first_story feeds parts) (record { core = first_core nodes parts; versions = v }))
    (sym versions_is)
    (opens-all nodes parts (subst IsCore core_is core) (subst IsVersions versions_is versions) feeds count))

-- the run that a raise passes is the longest that it may
pub ready-longest : (h : HubView) (i : ℕ) → HasStory h → IsLongestFront (least_reach h.core i) (past_in h.core.helds (agreed_in h i) i)
    (ready_run h.core i)
ready-longest h i (story, s) =
    let chains = past_in h.core.helds (agreed_in h i) i in
    let rows = s.core.core.parts in
    let some = s.core.core.table.parts in
    let many : length chains ≡ length h.core.helds =
    length-map h.core.helds (λ (held : List ChainView). past (agreed_in h i) (stamps_of (chain_at held i).held)) in
    longest-front (least_reach h.core i) chains (omega arith)

module _ (h : HubView) (i from : ℕ) (lt : i < nodes_in h) (after : last_in h i ≤ from) (ahead : from ≤ agreed_in h i) where
  -- what partition 0 holds past a position is what the hub has agreed past it
  pub since-since : AreSince h i from (stamps_between (chain_of h.core 0 i) from (agreed_in h i))
  since-since story s =
      let nodes = s.core.nodes_are in
      let some = s.core.core.table.parts in
      let rows = s.core.core.parts in
      let count = s.core.parts_are in
      let last = last-is story h.core s.core (omega arith) i (omega arith) in
      since-is story h.core s.core (omega arith) i from (omega arith) (omega arith) ahead

  pub since-result : (r : Result (List Stamp) Memory)
      → IfOk r (λ stamps. stamps ≡ stamps_between (chain_of h.core 0 i) from (agreed_in h i)) → IfOk r (AreSince h i from)
  since-result (Ok stamps) is = subst (AreSince h i from) (sym is) since-since
  since-result (Err e) is = tt

-- no last position is above the agreed one
pub last-within : (h : HubView) → HasStory h → (i : ℕ) → i < nodes_in h → last_in h i ≤ agreed_in h i
last-within h (story, s) i lt =
    let nodes = s.core.nodes_are in
    let some = s.core.core.table.parts in
    let rows = s.core.core.parts in
    let count = s.core.parts_are in
    last-low story h.core s.core (omega arith) i (omega arith)

-- what is agreed past the last vector has records
sized-line : (at : ℕ) (ss : List Stamp) → IsLine at ss → All HasRecords ss
sized-line at [] line = All-nil HasRecords
sized-line at (s ∷ ss) line = let from = line.0 in let some = line.1 in All-cons HasRecords s ss (omega arith) (sized-line s.to ss line.2)

pub last-sized : (h : HubView) → HasStory h → (i : ℕ) → i < nodes_in h → All HasRecords (list_at (since_cut h.core) i)
last-sized h (story, s) i lt =
    let nodes = s.core.nodes_are in
    let some = s.core.core.table.parts in
    let rows = s.core.core.parts in
    let count = s.core.parts_are in
    let one = s.core.core.table.some in
    let last = cuts_in h in
    subst (All HasRecords) (sym (list-is story h.core s.core (omega arith) i (omega arith)))
    (sized-line (story.vectors last i) (past (story.vectors last i) (story.lines i)) (past-line 0 (story.vectors last i) (story.lines i)
    (s.core.each_line i (omega arith)).run (s.core.ends last i (omega arith) (omega arith)).place))

module _ (old : HubView) (n : Option ℕ) (new : CoreView) (core : IsCore new) where
  cut-cuts : (cut : Cut) → IsNextCut old.core.table n (since_cut old.core) cut → new ≡ with_cut old.core cut.ends
      → HubCuts old n (record old { core = new })
  cut-cuts cut next is story s = record {
    core = subst (CoreStands (cut_story story (cuts_in old + 1) (next_of story old n))) (sym is)
        (cut-stands story old.core s.core
        (let some = s.core.core.table.parts in let rows = s.core.core.parts in let count = s.core.parts_are in
        omega arith) n cut next (subst IsCore is core));
    stores = subst (λ (c : CoreView). StoresStand story.parts story.feeds (with_next story.vectors (cuts_in old + 1) (next_of story old n))
        (record old { core = c })) (sym is)
        (cut-stores story.parts story.feeds story.vectors old (next_of story old n) cut.ends s.stores);
  }

  pub cut-result : (r : Result Cut CutRefused) → IfOk r (IsNextCut old.core.table n (since_cut old.core))
      → IfOk r (λ cut. new ≡ with_cut old.core cut.ends) → OnOk r (HubCuts old n (record old { core = new }))
  cut-result (Ok cut) next is = cut-cuts cut next is
  cut-result (Err e) next is = tt

  pub cut-some : (r : Result Cut CutRefused) → IfOk r (IsNextCut old.core.table n (since_cut old.core))
      → IfOk r (λ cut. new ≡ with_cut old.core cut.ends) → OnErr r (new ≡ old.core) → HasStory old → HasStory (record old { core = new })
  cut-some (Ok cut) next is same (story, s) =
      (cut_story story (cuts_in old + 1) (next_of story old n), cut-cuts cut next is story s)
  cut-some (Err e) next is same has = subst (λ (c : CoreView). HasStory (record old { core = c })) (sym same) has
