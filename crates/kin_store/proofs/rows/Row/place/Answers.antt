use Rattle.kin_store.proofs.rows.Row.place.Goals as goal

pub returns-in-AddOut : goal.returns-in-AddOut
returns-in-AddOut c = rw (c.in-AddOut.is, ← c.self.view_is) c.place_in.ensures

pub returns-in-AddIn : goal.returns-in-AddIn
returns-in-AddIn c = rw (c.in-AddIn.is, ← c.self.view_is) c.place_in-in-AddIn.ensures

pub returns-in-DropOut : goal.returns-in-DropOut
returns-in-DropOut c = rw (c.in-DropOut.is, ← c.self.view_is) c.place_in-in-DropOut.ensures

pub returns-in-DropIn : goal.returns-in-DropIn
returns-in-DropIn c = rw (c.in-DropIn.is, ← c.self.view_is) c.place_in-in-DropIn.ensures

pub returns-in-MentionOut : goal.returns-in-MentionOut
returns-in-MentionOut c = rw (c.in-MentionOut.is, ← c.self.view_is) c.place_in-in-MentionOut.ensures

pub returns-in-MentionIn : goal.returns-in-MentionIn
returns-in-MentionIn c = rw (c.in-MentionIn.is, ← c.self.view_is) c.place_in-in-MentionIn.ensures

pub returns-in-Use : goal.returns-in-Use
returns-in-Use c = rw (c.in-Use.is, ← c.self.view_is) c.place_in-in-Use.ensures
