-- The fixed words, as the definitions name them.
use Rattle.def_syntax.specs.Text as text
use Rattle.ic_tokens.specs.declared.words.Fixed.{Fixed}
use Rattle.ic_tokens.specs.declared.words.Fixed.TheVariants.{Xcom, Tcom, Pcom, Immediate, Var, Key, On, Set, Send, Out, If, Else, Txn, Get, Put, Need, End}

abbrev pub fixed_of : Fixed → text.Fixed
fixed_of Xcom = text.XcomWord
fixed_of Tcom = text.TcomWord
fixed_of Pcom = text.PcomWord
fixed_of Immediate = text.ImmediateWord
fixed_of Var = text.VarWord
fixed_of Key = text.KeyWord
fixed_of On = text.OnWord
fixed_of Set = text.SetWord
fixed_of Send = text.SendWord
fixed_of Out = text.OutWord
fixed_of If = text.IfWord
fixed_of Else = text.ElseWord
fixed_of Txn = text.TxnWord
fixed_of Get = text.GetWord
fixed_of Put = text.PutWord
fixed_of Need = text.NeedWord
fixed_of End = text.EndWord
