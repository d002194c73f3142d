use Rattle.wl_history.proofs.Cursors.{turned, empty_rounds}
use Rattle.wl_history.proofs.cursor.Cursor.turn.Goals as goal

pub returns-clause-same : goal.returns-clause-same
returns-clause-same c = turned c.args.times c.args.self.now.round c.args.self.now.place c.args.body.now c.if-self-times.false c.if-self-body.false

pub returns-clause-over : goal.returns-clause-over
returns-clause-over c none = empty_rounds _ c.args.body.now none
