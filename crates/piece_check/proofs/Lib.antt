mod Forms
mod Window
mod Axis
