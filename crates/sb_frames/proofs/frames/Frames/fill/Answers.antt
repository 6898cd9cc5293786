use Rattle.std.proofs.Common.{◌≡◌, ◌+◌, ◌-◌, ◌≤◌, ◌++◌, length, take, drop, rules, ap, ◌∙◌, arith, length-append, length-drop}
use Rattle.std.proofs.lemmas.List.{places, length-take-le}
use Rattle.sb_frames.specs.declared.frames.TheConstants.{READ_LENGTH}
use Rattle.sb_frames.proofs.OutOfReaders.{read_in, count_in, same_count, within_got, fills_by, open_view, written}
use Rattle.sb_frames.proofs.frames.Frames.fill.Goals as goal
use borrow.Rule.Slice.PartMut.{put_mid, post_of}

pub returns-clause-filled : goal.returns-clause-filled
returns-clause-filled g c =
    let f = c.self.inside in
    let old = f.buffer.items in
    let o = open_view f.is_closed (f.frame ++ old) c.args.self.now c.self.view_is c.requires.open in
    let longer = c.advance_mut.new.self.items in
    let all = c.as_mut_slice.result.now in
    let got = c.read_telling-answer.new.bytes in
    let start = c.len-start.result in
    let is : start ≡ length old = c.len-start.ensures.value ∙ ap length c.in_ok-reserve.ensures.items in
    let most : length all ≡ start + READ_LENGTH = omega (arith, ap length c.as_mut_slice.ensures.value, c.advance_mut.ensures.len, c.len-start.ensures.value) in
    let bound : start ≤ length all = omega (arith, most) in
    let rest = length all - start in
    let post = post_of start rest all in
    let after = put_mid start rest all got in
    let whole_len : length after ≡ length longer = search (rules, places) in
    let size : length got ≡ READ_LENGTH = omega (
      arith,
      whole_len,
      most,
      ap length c.as_mut_slice.ensures.value,
      length-append (take start all) (got ++ post),
      length-append got post,
      length-take-le start all bound,
      length-drop
          rest (drop start all),
      length-drop start all,
    ) in
    let counted : c.unwrap_or-count.result ≡ count_in c.read_telling-answer.result = c.unwrap_or-count.ensures ∙ same_count c.read_telling-answer.result in
    let front : take start all ≡ old =
    ap (take start) c.as_mut_slice.ensures.value ∙ ap (λ n. take n longer) c.len-start.ensures.value ∙ c.advance_mut.ensures.front ∙ c.in_ok-reserve.ensures.items in
    let whole : c.truncate.new.self.items ≡ take (start + c.unwrap_or-count.result) after =
    c.truncate.ensures.items ∙ ap (take (start + c.unwrap_or-count.result)) (written longer after whole_len) in
    let items : c.truncate.new.self.items ≡ old ++ take (count_in c.read_telling-answer.result) got =
    whole ∙ ap (λ n. take (start + n) after) counted
    ∙ read_in old all got post start (count_in c.read_telling-answer.result) is front (within_got _ _ got _ _ c.read_telling-answer.result c.read_telling-answer.ensures.gives) in
    rw (o.1, o.0) (fills_by f.frame old (g.R.Read.remaining c.args.reader.now) (g.R.Read.remaining c.read_telling-answer.new.reader) c.args.left.now c.read_telling-answer.new.left
    c.read_telling-answer.result got c.truncate.new.self.items size c.read_telling-answer.ensures.gives items)
