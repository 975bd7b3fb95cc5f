use Rattle.gz_round.proofs.run.Run.ask.Goals as goal

pub request-requires-clause-site : goal.request-requires-clause-site
request-requires-clause-site c = c.requires.site

pub request-requires-clause-rows : goal.request-requires-clause-rows
request-requires-clause-rows c = c.requires.rows

pub request-requires-clause-marks : goal.request-requires-clause-marks
request-requires-clause-marks c = c.requires.marks

pub request-requires-clause-step : goal.request-requires-clause-step
request-requires-clause-step c = c.requires.step

pub note_sent-requires : goal.note_sent-requires
note_sent-requires c = record { marks = c.requires.marks }
