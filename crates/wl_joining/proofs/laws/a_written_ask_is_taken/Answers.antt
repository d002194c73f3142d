use Rattle.wl_joining.proofs.Again.{ask_as_written}
use Rattle.wl_joining.proofs.laws.a_written_ask_is_taken.Goals as goal

pub returns : goal.returns
returns c ask list octets mac taken is of none there = ask_as_written c.asks_read_once.ensures ask.on mac _ ask taken (c.an_ask_is_read.ensures ask list octets mac is of none there)
