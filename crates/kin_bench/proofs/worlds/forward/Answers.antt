use Rattle.kin_bench.proofs.worlds.forward.Goals as goal

pub step-requires-clause-room : goal.step-requires-clause-room
step-requires-clause-room c = c.event_at.ensures.room c.loop-done.world
