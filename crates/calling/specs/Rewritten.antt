-- A fumen text that is written again in version 115, and why one is not.
use Rattle.std.specs.Prelude.{◌≡◌, ℕ, List, Some}
use Rattle.pc_outside.specs.declared.answers.Refused.{Refused}
use Rattle.pc_outside.specs.declared.answers.Refused.TheVariants as refused
use Rattle.fumen_digits.specs.declared.dialect.Dialect.{Dialect}
use Rattle.fumen_digits.specs.declared.dialect.Dialect.TheVariants.{V115}
use Rattle.fumen_pages.specs.declared.page.Page.{Page}
use Rattle.fumen_pages.specs.declared.encode_fault.EncodeFault.TheVariants as fault
use Rattle.fumen_text.specs.Faults.{IsTextFault}
use Rattle.fumen_text.specs.Texts.{ReadsAs}
use Rattle.fumen_text.specs.Written.{list_encode_fault, written}
use Rattle.calling.specs.declared.fumen.RewriteFault.{RewriteFault}
use Rattle.calling.specs.declared.fumen.RewriteFault.TheVariants.{CommentTooLong, Unreadable}

-- a text reads as some pages, the other is what is written for them, and it reads as them
pub record IsRewritten (text again : List ℕ) : Type 0 where
  pub dialect : Dialect
  pub pages : List Page
  pub read : ReadsAs text dialect pages
  pub spelling : again ≡ written V115 pages
  pub read_again : ReadsAs again V115 pages

-- a text reads as some pages, and what keeps them from being written is the comment of the page with this number
pub record HasLongComment (text : List ℕ) (page : ℕ) : Type 0 where
  pub dialect : Dialect
  pub pages : List Page
  pub read : ReadsAs text dialect pages
  pub found : list_encode_fault V115 pages ≡ Some (fault.CommentTooLong page)

-- The fault is that of the text, or else that of a comment. Want of memory may come at any time.
abbrev pub IsRewriteFault : List ℕ → Refused RewriteFault → Type 0
IsRewriteFault text (refused.Fault (Unreadable fault)) = IsTextFault text fault
IsRewriteFault text (refused.Fault (CommentTooLong page)) = HasLongComment text page
IsRewriteFault text refused.NoMemory = Unit {0}
