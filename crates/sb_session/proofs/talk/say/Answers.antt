use Rattle.sb_session.proofs.Saying.{says_one, sent_unread}
use Rattle.sb_session.proofs.talk.say.Goals as goal

pub returns-clause-says : goal.returns-clause-says
returns-clause-says g c = says_one c.args.connection.now.output c.send.new.self.output c.args.message c.send.result c.send.ensures.sends

pub returns-clause-unread : goal.returns-clause-unread
returns-clause-unread g c = sent_unread c.args.connection.now.output c.send.new.self.output _ c.send.result c.send.ensures.sends
