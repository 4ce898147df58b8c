-- A panel that tells how far the medium that was begun has come, and nothing of what is seen.
use Rattle.std.specs.Prelude.{None}
use Rattle.sg_devices.specs.declared.folder_panel.FolderPanel.{FolderPanel}
use Rattle.sg_devices.specs.Panels.{PanelView}

-- a panel over a folder
abbrev pub folder_view : {R F D : Type 0} → FolderPanel R F D → PanelView
folder_view p = record { face = None; begun = p.begun; faults = p.faults }
