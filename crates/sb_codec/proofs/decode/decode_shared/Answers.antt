use Rattle.sb_codec.proofs.decode.decode_shared.Goals as goal

pub returns-clause-found : goal.returns-clause-found
returns-clause-found c = rw c.as_slice.ensures at c.decode_payload.ensures.found

pub returns-clause-sole : goal.returns-clause-sole
returns-clause-sole c = rw c.as_slice.ensures at c.decode_payload.ensures.sole

pub returns-clause-only : goal.returns-clause-only
returns-clause-only c = rw c.as_slice.ensures at c.decode_payload.ensures.only

pub returns-clause-exact : goal.returns-clause-exact
returns-clause-exact c = rw c.as_slice.ensures at c.decode_payload.ensures.exact

pub returns-clause-unknown : goal.returns-clause-unknown
returns-clause-unknown c = rw c.as_slice.ensures at c.decode_payload.ensures.unknown

pub returns-clause-memory : goal.returns-clause-memory
returns-clause-memory c = rw c.as_slice.ensures at c.decode_payload.ensures.memory
