-- A commit.
use Rattle.std.proofs.Common.{◌≡◌, ◌≢◌, ℕ, ◌+◌, ◌<◌, ◌≤◌, Bool, true, false, cond, eqb, ltb, ◌&&◌, List, [], ◌∷◌, Result, Ok, Err, refl, sym, ◌∙◌, ap, subst, arith, length, get_or}
use Rattle.std.proofs.lemmas.Bool.{cond-true, cond-false, eqb-true, eq-eqb, lt-ltb, le-ltb}
use Rattle.std.proofs.lemmas.List.{length-set}
use Rattle.std.specs.Prelude.{IfOk, OnOk, OnErr, IsErrOf, ◌↔◌}
use Rattle.kin_ids.specs.declared.ids.Epoch.{Epoch}
use Rattle.kin_ids.specs.declared.ids.PartId.{PartId}
use Rattle.kin_ids.specs.declared.stamps.Stamp.{Stamp}
use Rattle.kin_ids.specs.Lines.{upto, made_by}
use Rattle.kin_ids.proofs.Rounds.{get_or-set}
use Rattle.kin_script.specs.declared.events.Event.{Event}
use Rattle.kin_script.specs.declared.outcomes.Outcome.{Outcome}
use Rattle.kin_script.specs.declared.events.Event.TheVariants as event
use Rattle.kin_script.specs.declared.outcomes.Outcome.TheVariants as outcome
use Rattle.kin_script.specs.declared.outcomes.Refusal.TheVariants as refusal
use Rattle.kin_history.specs.Setting.{Setting, nodes}
use Rattle.kin_history.specs.Lines.{line, delivered, bases, base, seen, sent}
use Rattle.kin_history.specs.Vectors.{cuts, vector, committed}
use Rattle.kin_history.specs.Outcomes.{outcome_of}
use Rattle.kin_history.proofs.Cuts.{sound-cuts}
use Rattle.kin_held.specs.Chains.{ChainView, chain_at}
use Rattle.kin_held.specs.ChainOf.{IsChainOf}
use Rattle.kin_held.specs.Takes.{chain_past}
use Rattle.kin_held.proofs.Forgetting.{forget-chain}
use Rattle.kin_table.specs.Vectors.{end_at}
use Rattle.kin_table.specs.Tables.{row_at, inc_in}
use Rattle.kin_hub.specs.Cores.{CoreView, held_at}
use Rattle.kin_hub.specs.declared.answers.CommitRefused.{CommitRefused}
use Rattle.kin_hub.specs.declared.answers.CommitRefused.TheVariants as refused
use Rattle.kin_hub.specs.Commits.{Commits, HasSmallFeeds, MayCommit}
use Rattle.kin_hub.proofs.Committing.{may-commit}
use Rattle.kin_hub.specs.Goes.{HubKeeps}
use Rattle.kin_hub.specs.Hubs.{HubView, chain_in, cuts_in, committed_in, next_ends}
use Rattle.kin_world.specs.Worlds.{WorldView, KeptWhereRefused}
use Rattle.kin_world.specs.Steps.{CommitsPart}
use Rattle.kin_world.specs.Stands.{Stands, HasHistory, Keeps, agreed_line, story_of}
use Rattle.kin_world.proofs.Cutting.{cuts_is, committed-low}
use Rattle.kin_world.proofs.Facts.{some_parts, part_in}
use Rattle.kin_world.proofs.Refusals.{refused-keeps}

-- a world's feeds are within the limits, so its partitions may commit
pub small-feeds : (w : WorldView) → HasHistory w → HasSmallFeeds w.hub
small-feeds w (set, h, s) = (story_of set h, s.epochs.hub, s.over.limits)

pub may-commit-of : (w : WorldView) → HasHistory w → (p : ℕ) → p < w.parts → MayCommit w.hub p
may-commit-of w has p lt = may-commit w.hub p (small-feeds w has) (let parts = has.2.over.world.hub_parts in omega arith)

module _ (set : Setting) (w : WorldView) (h : List Event) (s : Stands set w h) (p : PartId) (p_lt : p.0 < set.parts) (more : committed set h p.0 < cuts set h) (hub : HubView) (c : Commits w.hub p.0 hub) where
  abbrev Next : ℕ
  Next = committed set h p.0 + 1

  -- what the history says that partitions have committed
  next-is : (q : ℕ) (b : Bool) → eqb p.0 q ≡ b → committed set (event.Commit p ∷ h) q ≡ cond b Next (committed set h q)
  next-is q true e = subst (λ (k : ℕ). committed set (event.Commit p ∷ h) k ≡ Next) (eqb-true p.0 q e)
      (ap (λ (x : Bool). cond (x && ltb (committed set h p.0) (cuts set h)) Next (committed set h p.0)) (eq-eqb p.0 p.0 refl) ∙ cond-true (ltb (committed set h p.0) (cuts set h)) Next (committed set h p.0) (lt-ltb (committed set h p.0) (cuts set h) more))
  next-is q false e = ap (λ (x : Bool). cond (x && ltb (committed set h q) (cuts set h)) (committed set h q + 1) (committed set h q)) e

  in_hub : p.0 < length w.hub.core.helds
  in_hub = let are = s.epochs.hub.core.parts_are in omega arith

  held-is : (q : ℕ) → held_at hub.core.helds q ≡ cond (eqb p.0 q) c.core.0 (held_at w.hub.core.helds q)
  held-is q = ap (λ (v : CoreView). held_at v.helds q) c.core.2 ∙ get_or-set w.hub.core.helds p.0 q c.core.0 [] in_hub

  -- where the next vector is at a node
  end-is : (i : ℕ) → i < nodes set → (end_at (next_ends w.hub p.0) i).to ≡ vector set h Next i
  end-is i i_lt =
      let is = s.epochs.committed_are p.0 p_lt in
      let count = s.epochs.vectors in
      (s.epochs.hub.core.ends (committed_in w.hub p.0 + 1) i (omega arith) i_lt).to ∙ ap (λ (n : ℕ). vector set h (n + 1) i) is

  abbrev Chain : ℕ → ℕ → ℕ → ChainView → Type 0
  Chain q i n chain = IsChainOf i (seen set h q i) (base set h i (seen set h q i)) (vector set h n i) (delivered set h q) (upto (base set h i (seen set h q i)) (line set h i)) (made_by i (seen set h q i) (sent set h)) chain

  chain_part : (q i : ℕ) → q < set.parts → i < nodes set → (b : Bool) → eqb p.0 q ≡ b → Chain q i (cond b Next (committed set h q)) (chain_at (cond b c.core.0 (held_at w.hub.core.helds q)) i)
  chain_part q i q_lt i_lt true e =
      subst (λ (k : ℕ). Chain k i Next (chain_at c.core.0 i)) (eqb-true p.0 q e)
      (subst (Chain p.0 i Next) (sym (c.core.1.each i (node_in i i_lt) ∙ ap (chain_past (chain_in w.hub p.0 i)) (end-is i i_lt)))
      (forget-chain i (seen set h p.0 i) (base set h i (seen set h p.0 i)) (vector set h (committed set h p.0) i) (vector set h Next i) (delivered set h p.0) (upto (base set h i (seen set h p.0 i)) (line set h i))
      (made_by i (seen set h p.0 i) (sent set h)) (chain_in w.hub p.0 i) ((sound-cuts set h i (some_parts set w h s) s.over.history i_lt).step (committed set h p.0) more) (s.partitions.chains p.0 i p_lt i_lt)))
    where
      node_in : (i : ℕ) → i < nodes set → i < length (held_at w.hub.core.helds p.0)
      node_in i i_lt = let each = s.epochs.hub.core.core.chains p.0 [] in_hub in let nodes = s.epochs.hub.core.nodes_are in omega arith
  chain_part q i q_lt i_lt false e = s.partitions.chains q i q_lt i_lt

  pub commit-stands : HubKeeps w.hub hub → Stands set (record w { hub = hub }) (event.Commit p ∷ h)
  commit-stands keeps = record {
    over = record {
      world = record {
        nodes = s.over.world.nodes;
        hub_nodes = ap (λ (v : CoreView). length v.table.agreed) c.core.2 ∙ s.over.world.hub_nodes;
        hub_parts = ap (λ (v : CoreView). length v.helds) c.core.2 ∙ (length-set w.hub.core.helds p.0 c.core.0 ∙ s.over.world.hub_parts);
      };
      feeds = s.over.feeds;
      parts = s.over.parts;
      landmarks = s.over.landmarks;
      limits = s.over.limits;
      history = (p_lt, s.over.history);
    };
    nodes = record { ingests = s.nodes.ingests; stamps = s.nodes.stamps };
    partitions = record {
      chains = λ q i q_lt i_lt. subst (λ (n : ℕ). Chain q i n (chain_in hub q i)) (sym (next-is q (eqb p.0 q) refl))
          (subst (λ (held : List ChainView). Chain q i (cond (eqb p.0 q) Next (committed set h q)) (chain_at held i)) (sym (held-is q)) (chain_part q i q_lt i_lt (eqb p.0 q) refl));
      rows = λ q q_lt. ap (λ (v : CoreView). (row_at v.table.rows q).reported) c.core.2 ∙ s.partitions.rows q q_lt;
      row_incs = λ q i q_lt i_lt told. ap (λ (v : CoreView). inc_in (row_at v.table.rows q).incs i) c.core.2 ∙ s.partitions.row_incs q i q_lt i_lt told;
      row_tops = λ q i q_lt i_lt told. ap (λ (v : CoreView). get_or (row_at v.table.rows q).tops i 0) c.core.2 ∙ s.partitions.row_tops q i q_lt i_lt told;
    };
    epochs = record {
      vectors = ap (λ (v : CoreView). length v.table.vectors) c.core.2 ∙ s.epochs.vectors;
      committed_are = λ q q_lt. ap (λ (xs : List ℕ). get_or xs q 0) c.versions.puts.committed
          ∙ (get_or-set w.hub.versions.committed p.0 q (committed_in w.hub p.0 + 1) 0 (let are = s.epochs.hub.stores.parts_are in omega arith) ∙ committed_part q q_lt (eqb p.0 q) refl);
      kept = c.versions.puts.first ∙ s.epochs.kept;
      hub = keeps _ s.epochs.hub;
    };
    mining = record { mined_is = s.mining.mined_is; open_is = s.mining.open_is; miner = s.mining.miner; quiet = s.mining.quiet };
  }
    where
      committed_part : (q : ℕ) → q < set.parts → (b : Bool) → eqb p.0 q ≡ b → cond b (committed_in w.hub p.0 + 1) (committed_in w.hub q) ≡ committed set (event.Commit p ∷ h) q
      committed_part q q_lt true e = ap (λ (n : ℕ). n + 1) (s.epochs.committed_are p.0 p_lt) ∙ sym (next-is q true e)
      committed_part q q_lt false e = s.epochs.committed_are q q_lt ∙ sym (next-is q false e)

pub commit-keeps : (old : WorldView) (p : PartId) (o : Outcome) (new : WorldView) → p.0 < old.parts → CommitsPart old p.0 o new → Keeps old (event.Commit p) o new
commit-keeps old p (outcome.Refused refusal.NothingCut) new p_lt refused =
    refused-keeps old (event.Commit p) refusal.NothingCut new p_lt refused.1
    (λ set h s.
    let is = s.epochs.committed_are p.0 (part_in set old h s p.0 p_lt) in
    let count = cuts_is set old h s in
    cond-false (ltb (committed set h p.0) (cuts set h)) _ _ (le-ltb (committed set h p.0) (cuts set h) (let none = refused.0 in omega arith)))
commit-keeps old p (outcome.Committed k) new p_lt made = λ set h s.
    let lt = part_in set old h s p.0 p_lt in
    let is = s.epochs.committed_are p.0 lt in
    let count = cuts_is set old h s in
    let left = made.left in
    let low = committed-low set h p.0 in
    let more : committed set h p.0 < cuts set h = omega arith in
    let number : k.0 ≡ committed set h p.0 + 1 = made.epoch ∙ ap (λ (n : ℕ). n + 1) is in (
      ap (λ (n : ℕ). outcome.Committed (record { 0 = n })) number ∙ sym (cond-true (ltb (committed set h p.0) (cuts set h)) _ _ (lt-ltb (committed set h p.0) (cuts set h) more)),
      subst (λ (v : WorldView). Stands set v (event.Commit p ∷ h)) (sym made.world) (commit-stands set old h s p lt more new.hub made.commits made.keeps),
    )
commit-keeps old p _ new p_lt made = absurd made

pub commit-kept : (old : WorldView) (p : ℕ) (o : Outcome) (new : WorldView) → CommitsPart old p o new → KeptWhereRefused old o new
commit-kept old p (outcome.Refused refusal.NothingCut) new refused = refused.1
commit-kept old p (outcome.Committed k) new made = tt
commit-kept old p _ new made = absurd made

-- what the hub's answer to a commit makes of the world
module _ (old : WorldView) (p : ℕ) (hub : HubView) (r : Result Epoch CommitRefused) (nothing : IsErrOf r refused.NothingCut ↔ (committed_in old.hub p ≡ cuts_in old.hub)) where
  pub commit-made : (k : Epoch) → r ≡ Ok k → IfOk r (λ (k : Epoch). k.0 ≡ committed_in old.hub p + 1) → OnOk r (Commits old.hub p hub) → OnOk r (HubKeeps old.hub hub) → CommitsPart old p (outcome.Committed k) (record old { hub = hub })
  commit-made k is epoch commits keeps = record {
    left = λ all. let no = sym is ∙ nothing.1 all in absurd cc;
    epoch = rw is at epoch;
    commits = rw is at commits;
    keeps = rw is at keeps;
    world = refl;
  }

  pub commit-refused : r ≡ Err refused.NothingCut → OnErr r (hub ≡ old.hub) → CommitsPart old p (outcome.Refused refusal.NothingCut) (record old { hub = hub })
  commit-refused is err =
      let same : hub ≡ old.hub = rw is at err in
      (nothing.0 is, ap (λ (v : HubView). record old { hub = v }) same)
